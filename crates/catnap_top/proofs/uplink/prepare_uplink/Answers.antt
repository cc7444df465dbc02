use Rattle.catnap_top.specs.Look.{goes}
use Rattle.catnap_top.specs.Reply.{reply_answer}
use Rattle.catnap_top.specs.Uplink.{uplinking}
use Rattle.catnap_top.proofs.Looks.{passes_on, stops_first, stops_next}
use Rattle.catnap_top.proofs.uplink.prepare_uplink.Goals as goal

pub returns-in_err-files-clause-looks : goal.returns-in_err-files-clause-looks
returns-in_err-files-clause-looks c =
    passes_on reply_answer (uplinking c.args.source.now c.args.profile.now c.args.trace.now c.args.arrivals.now c.args.failures.now c.args.link.now) c.from_residual.result c.in_err-files.field-0.0 c.from_residual.ensures.1
    (stops_first _ _ c.in_err-files.field-0.0 c.in_err-files.ensures.looks)

pub returns-in_err-steps-clause-looks : goal.returns-in_err-steps-clause-looks
returns-in_err-steps-clause-looks c =
    passes_on reply_answer (uplinking c.args.source.now c.args.profile.now c.args.trace.now c.args.arrivals.now c.args.failures.now c.args.link.now) c.from_residual-in_err-steps.result c.in_err-steps.field-0.0 c.from_residual-in_err-steps.ensures.1
    (stops_next _ _ c.in_ok-files.files c.in_err-steps.field-0.0 c.in_ok-files.ensures.looks (stops_first _ _ c.in_err-steps.field-0.0 c.in_err-steps.ensures))

pub returns-in-Ok-clause-looks : goal.returns-in-Ok-clause-looks
returns-in-Ok-clause-looks c = goes c.in_ok-files.files c.in_ok-files.ensures.looks (goes c.in_ok-steps.steps c.in_ok-steps.ensures c.in-Ok.ensures)

pub returns-clause-looks : goal.returns-clause-looks
returns-clause-looks c =
    stops_next _ _ c.in_ok-files.files c.in-Err.stop c.in_ok-files.ensures.looks (stops_next _ _ c.in_ok-steps.steps c.in-Err.stop c.in_ok-steps.ensures c.in-Err.ensures)
