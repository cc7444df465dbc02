use Rattle.std.proofs.Common.{ap, Ok}
use Rattle.catnap_top.specs.declared.status.Status.TheVariants.{Done}
use Rattle.catnap_top.specs.Look.{goes}
use Rattle.catnap_top.specs.Run.{run_text}
use Rattle.catnap_top.specs.RunObject.{running_object, section_answers}
use Rattle.catnap_top.specs.Reply.{reply_answer}
use Rattle.catnap_top.proofs.Looks.{stops_first, passes_on}
use Rattle.catnap_top.proofs.runobject.prepare_runobject.Goals as goal

pub returns-in_err-object-clause-looks : goal.returns-in_err-object-clause-looks
returns-in_err-object-clause-looks c =
    passes_on reply_answer (running_object c.args.steps c.args.bytes.now) c.from_residual.result c.in_err-object.field-0.0 c.from_residual.ensures.1
    (stops_first _ _ c.in_err-object.field-0.0 c.in_err-object.ensures.looks)

pub returns-clause-looks : goal.returns-clause-looks
returns-clause-looks c =
    let o = c.in_ok-object.object in
    goes o c.in_ok-object.ensures.looks
    (ap (λ h. Ok (record { status = Done; text = run_text (section_answers o.code c.args.steps h) })) c.in_ok-working.ensures.is)
