use Rattle.std.proofs.Common.{◌≡◌, ◌∙◌, ap, sym, arith, rules, subst, ℕ, ◌+◌, ◌≤◌, [], ◌∷◌, ◌++◌, map, take, Err, Vec}
use Rattle.std.specs.Prelude.{IsErrOf}
use Rattle.std.specs.declared.alloc.Global.{Global}
use Rattle.cn_base.specs.declared.inputs.ReadFail.TheVariants.{Failed}
use Rattle.cn_base.specs.Causes.{Rose}
use Rattle.cn_base.specs.Reading.{IsFront}
use Rattle.catnap_top.specs.Answer.{most_bytes}
use Rattle.catnap_words.specs.Words.{texts}
use Rattle.catnap_top.specs.Reads.{AsksInVain, AreRead}
use Rattle.catnap_top.proofs.ReadMore.{map_snoc, read_more}
use Rattle.std.proofs.lemmas.List.{length-map}
use Rattle.catnap_top.proofs.AskMore.{asked_more, asked_in_vain, asked_of_texts, texts_more}
use Rattle.catnap_top.proofs.reading.read_files.Goals as goal

pub returns-then-is_err-clause-reads : goal.returns-then-is_err-clause-reads
returns-then-is_err-clause-reads g c = (
  c.loop-name.name-index + 1,
  simp length-map (omega arith),
  asked_of_texts _ _ c.args.names.now (c.loop-name.name-index + 1)
      (asked_more _ _ _ c.args.names.now c.loop-name.name-index c.name-item.result _ c.loop-name-test.true
      c.as_str.ensures.value c.name-item.is c.loop-name.invariant.1 c.in-Ok-read.ensures.asked),
  c.in-Ok-read.ensures.cause.kept (λ x. cc) ∙ c.loop-name.invariant.2,
)

pub returns-in-Err-Failed-clause-reads : goal.returns-in-Err-Failed-clause-reads
returns-in-Err-Failed-clause-reads g c =
    let asked = rw c.in-Err-Failed.field-0-is at c.in-Err-Failed.ensures.asked in
    let fell : IsErrOf (Err c.in-Err-Failed.field-0) Failed = cc in (
      simp length-map (omega arith),
      subst (λ k. AsksInVain (texts c.args.names.now) k (g.I.Inputs.asked c.args.inputs.now) (g.I.Inputs.asked c.read.new.self))
          (sym c.loop-name.invariant.4)
          (asked_in_vain _ _ _ c.args.names.now c.loop-name.name-index c.name-item.result _ c.loop-name-test.true
          c.as_str.ensures.value c.name-item.is c.loop-name.invariant.1 asked),
      subst (λ n. n ≤ g.I.Inputs.faults c.read.new.self) c.loop-name.invariant.2 c.in-Err-Failed.ensures.cause.later,
      subst (λ n. Rose n (g.I.Inputs.faults c.read.new.self)) c.loop-name.invariant.2 (c.in-Err-Failed.ensures.cause.failed fell),
    )

pub returns-in-Err-NoMemory-clause-reads : goal.returns-in-Err-NoMemory-clause-reads
returns-in-Err-NoMemory-clause-reads g c =
    let asked = rw c.in-Err-NoMemory.field-0-is at c.in-Err-NoMemory.ensures.asked in (
      c.loop-name.name-index,
      simp length-map (omega arith),
      asked_of_texts _ _ c.args.names.now c.loop-name.name-index (asked ∙ c.loop-name.invariant.1),
      c.in-Err-NoMemory.ensures.cause.kept (λ x. cc) ∙ c.loop-name.invariant.2,
    )

pub loop-name-preserved : goal.loop-name-preserved
loop-name-preserved g c =
    let pushed : c.push.new.self.items ≡ c.loop-name.read.items ++ c.in-Ok-read.bytes ∷ [] = search rules in (
      subst (λ n. AreRead (g.I.Inputs.files c.args.inputs.now) n (map (λ (file : Vec ℕ Global). file.items) c.push.new.self.items))
          (texts_more c.args.names.now c.loop-name.name-index c.name-item.result _ c.loop-name-test.true c.as_str.ensures.value c.name-item.is)
          (subst (λ f. AreRead (g.I.Inputs.files c.args.inputs.now) (texts (take c.loop-name.name-index c.args.names.now) ++ c.as_str.result.now ∷ []) f)
          (map_snoc (λ (file : Vec ℕ Global). file.items) c.loop-name.read.items c.in-Ok-read.bytes
          ∙ ap (λ l. map (λ (file : Vec ℕ Global). file.items) l) (sym pushed))
          (read_more _ _ _ _ _ c.loop-name.invariant.0
          (subst (λ f. IsFront f c.as_str.result.now most_bytes c.in-Ok-read.bytes.items) c.loop-name.invariant.3 c.in-Ok-read.ensures.bytes)
          c.in-Ok-read.ensures.short)),
      asked_more _ _ _ c.args.names.now c.loop-name.name-index c.name-item.result _ c.loop-name-test.true
          c.as_str.ensures.value c.name-item.is c.loop-name.invariant.1 c.in-Ok-read.ensures.asked,
      c.in-Ok-read.ensures.cause.kept (λ x. cc) ∙ c.loop-name.invariant.2,
      c.in-Ok-read.ensures.files ∙ c.loop-name.invariant.3,
      omega arith,
      search rules,
    )
