use Rattle.std.proofs.Common.{refl}
use Rattle.catnap_top.specs.Plan.{planning}
use Rattle.catnap_top.specs.Reply.{reply_answer}
use Rattle.catnap_top.specs.Look.{goes}
use Rattle.catnap_top.proofs.Looks.{stops_first, stops_next, passes_on}
use Rattle.catnap_top.proofs.plan.prepare_plan.Goals as goal

pub returns-in_err-program-clause-looks : goal.returns-in_err-program-clause-looks
returns-in_err-program-clause-looks c =
    passes_on reply_answer (planning c.args.source.now c.args.profile.now) c.from_residual.result c.in_err-program.field-0.0 c.from_residual.ensures.1
    (stops_first _ _ c.in_err-program.field-0.0 c.in_err-program.ensures)

pub returns-in_err-device-clause-looks : goal.returns-in_err-device-clause-looks
returns-in_err-device-clause-looks c =
    passes_on reply_answer (planning c.args.source.now c.args.profile.now) c.from_residual-in_err-device.result c.in_err-device.field-0.0 c.from_residual-in_err-device.ensures.1
    (stops_next _ _ c.in_ok-program.program c.in_err-device.field-0.0 c.in_ok-program.ensures
    (stops_first _ _ c.in_err-device.field-0.0 c.in_err-device.ensures))

pub returns-in_err-plan-clause-looks : goal.returns-in_err-plan-clause-looks
returns-in_err-plan-clause-looks c =
    passes_on reply_answer (planning c.args.source.now c.args.profile.now) c.from_residual-in_err-plan.result c.in_err-plan.field-0.0 c.from_residual-in_err-plan.ensures.1
    (stops_next _ _ c.in_ok-program.program c.in_err-plan.field-0.0 c.in_ok-program.ensures
    (stops_next _ _ c.in_ok-device.device c.in_err-plan.field-0.0 c.in_ok-device.ensures
    (stops_first _ _ c.in_err-plan.field-0.0 c.in_err-plan.ensures.plan)))

pub returns-clause-looks : goal.returns-clause-looks
returns-clause-looks c =
    goes c.in_ok-program.program c.in_ok-program.ensures
    (goes c.in_ok-device.device c.in_ok-device.ensures
    (goes c.in_ok-plan.plan c.in_ok-plan.ensures.plan refl))
