use Rattle.std.proofs.Common.{Ok, subst, false}
use Rattle.catnap_top.specs.Check.{checking, choosing}
use Rattle.catnap_top.specs.Reply.{reply_answer, selected_answer}
use Rattle.catnap_top.specs.Look.{goes, Stops}
use Rattle.catnap_top.proofs.Looks.{stops_first, stops_next, passes_on}
use Rattle.catnap_top.proofs.check.prepare_check.Goals as goal

pub returns-in_err-program-clause-looks : goal.returns-in_err-program-clause-looks
returns-in_err-program-clause-looks c =
    passes_on reply_answer (checking c.args.source.now c.args.profile.now) c.from_residual.result c.in_err-program.field-0.0 c.from_residual.ensures.1
    (stops_first _ _ c.in_err-program.field-0.0 c.in_err-program.ensures)

pub returns-in_err-device-clause-looks : goal.returns-in_err-device-clause-looks
returns-in_err-device-clause-looks c =
    passes_on reply_answer (checking c.args.source.now c.args.profile.now) c.from_residual-in_err-device.result c.in_err-device.field-0.0 c.from_residual-in_err-device.ensures.1
    (stops_next _ _ c.in_ok-program.program c.in_err-device.field-0.0 c.in_ok-program.ensures
    (stops_first _ _ c.in_err-device.field-0.0 c.in_err-device.ensures))

pub returns-in-Ok-clause-looks : goal.returns-in-Ok-clause-looks
returns-in-Ok-clause-looks c =
    goes c.in_ok-program.program c.in_ok-program.ensures
    (goes c.in_ok-device.device c.in_ok-device.ensures
    (subst (λ rows. choosing c.in_ok-program.program c.in_ok-device.device false rows (Ok (selected_answer c.in-Ok.selected))) c.in_ok-forecast.ensures c.in-Ok.ensures))

pub returns-in-Err-clause-looks : goal.returns-in-Err-clause-looks
returns-in-Err-clause-looks c =
    stops_next _ _ c.in_ok-program.program c.in-Err.stop c.in_ok-program.ensures
    (stops_next _ _ c.in_ok-device.device c.in-Err.stop c.in_ok-device.ensures
    (subst (λ rows. Stops (choosing c.in_ok-program.program c.in_ok-device.device false rows) c.in-Err.stop) c.in_ok-forecast.ensures c.in-Err.ensures))
