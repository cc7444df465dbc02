use Rattle.std.proofs.Common.{refl}
use Rattle.catnap_top.specs.Resume.{resuming}
use Rattle.catnap_top.specs.Reply.{reply_answer}
use Rattle.catnap_top.specs.Look.{goes}
use Rattle.catnap_top.proofs.Looks.{stops_first, stops_next, passes_on}
use Rattle.catnap_top.proofs.resume.prepare_resume.Goals as goal

pub returns-in_err-files-clause-looks : goal.returns-in_err-files-clause-looks
returns-in_err-files-clause-looks c =
    passes_on reply_answer (resuming c.args.source.now c.args.profile.now c.args.trace.now c.args.arrivals.now c.args.failures.now c.args.image.now) c.from_residual.result c.in_err-files.field-0.0 c.from_residual.ensures.1
    (stops_first _ _ c.in_err-files.field-0.0 c.in_err-files.ensures.looks)

pub returns-in-Ok-clause-looks : goal.returns-in-Ok-clause-looks
returns-in-Ok-clause-looks c = goes c.in_ok-files.files c.in_ok-files.ensures.looks c.in-Ok.ensures.looks

pub returns-in-Err-clause-looks : goal.returns-in-Err-clause-looks
returns-in-Err-clause-looks c = stops_next _ _ c.in_ok-files.files c.in-Err.stop c.in_ok-files.ensures.looks c.in-Err.ensures.looks

pub go_on-requires-clause-steady : goal.go_on-requires-clause-steady
go_on-requires-clause-steady c = c.in_ok-files.ensures.steady refl
