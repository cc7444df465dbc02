use Rattle.std.proofs.Common.{refl, sym, ap, ◌∙◌, length, ◌+◌}
use Rattle.std.proofs.lemmas.List.{length-map}
use Rattle.catnap_top.specs.Answer.{usage, read_fault}
use Rattle.catnap_top.specs.Course.{of_words, answered}
use Rattle.catnap_top.specs.Reply.{reply_answer}
use Rattle.catnap_top.proofs.Closing.{due_failed, stopped, stopped_later, due_read}
use Rattle.catnap_top.proofs.top.respond.Goals as goal

pub returns-in-None : goal.returns-in-None
returns-in-None g c =
    record { answer = answered usage (of_words (sym c.in-None.ensures.form) refl refl refl) c.finish.ensures; files = refl }

pub returns-in-Err-Failed : goal.returns-in-Err-Failed
returns-in-Err-Failed g c =
    let read = rw c.in-Err-Failed.field-0-is at c.in-Err-Failed.ensures.reads in
    record {
      answer =
          answered (read_fault (c.in-Err-Failed.count + 1))
          (due_failed _ _ c.in-Some.form _ _ _ _ _ c.in-Some.ensures.form c.names_in-names.ensures.names _ _ _ _ _ read)
          (rw c.in-Err-Failed.count-is at c.finish-in-Err-Failed.ensures);
      files = c.in-Err-Failed.ensures.files;
    }

pub returns-in-Err-NoMemory : goal.returns-in-Err-NoMemory
returns-in-Err-NoMemory g c =
    let read = rw c.in-Err-NoMemory.field-0-is at c.in-Err-NoMemory.ensures.reads in
    record { answer = stopped _ _ c.in-Some.form _ _ _ _ _ c.in-Some.ensures.form c.names_in-names.ensures.names _ _ read; files = c.in-Err-NoMemory.ensures.files }

pub reply_to-requires : goal.reply_to-requires
reply_to-requires g c =
    ap (λ l. length l) c.as_slice.ensures.value ∙ c.in-Ok.ensures.reads.3
    ∙ length-map c.names_in-names.result.now _ ∙ c.names_in-names.ensures.count

pub returns-in-Ok-reply_to : goal.returns-in-Ok-reply_to
returns-in-Ok-reply_to g c =
    record {
      answer =
          answered (reply_answer c.in-Ok-reply_to.reply)
          (due_read _ _ c.in-Some.form _ _ _ _ _ c.in-Some.ensures.form c.names_in-names.ensures.names _ _ _ _ c.in-Ok.files _ c.in-Ok.ensures.reads
          (rw c.as_slice.ensures.value at c.in-Ok-reply_to.ensures.answer))
          c.finish-in-Ok-reply_to.ensures;
      files = c.in-Ok.ensures.files;
    }

pub returns : goal.returns
returns g c =
    record { answer = stopped_later _ _ c.in-Some.form _ _ _ _ _ c.in-Some.ensures.form c.names_in-names.ensures.names _ _ c.in-Ok.files c.in-Ok.ensures.reads; files = c.in-Ok.ensures.files }
