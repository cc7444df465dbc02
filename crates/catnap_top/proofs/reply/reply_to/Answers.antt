use Rattle.std.proofs.Common.{Ok, Err, refl}
use Rattle.catnap_top.specs.Reply.{reply_answer}
use Rattle.catnap_top.proofs.reply.reply_to.Goals as goal

pub returns-in-Ok-clause-answer : goal.returns-in-Ok-clause-answer
returns-in-Ok-clause-answer c = record { came = Ok (reply_answer c.in-Ok.reply); is = c.in-Ok.ensures.looks; due_is = refl }

pub returns-in-Err-Refused-clause-answer : goal.returns-in-Err-Refused-clause-answer
returns-in-Err-Refused-clause-answer c =
    let stopped = rw c.in-Err-Refused.field-0-is at c.in-Err-Refused.ensures.looks in
    record { came = Err c.in-Err-Refused.fault; is = stopped; due_is = refl }
