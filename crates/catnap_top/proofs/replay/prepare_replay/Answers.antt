use Rattle.std.proofs.Common.{refl}
use Rattle.std.specs.Prelude.{option_map}
use Rattle.catnap_top.specs.Replay.{replaying}
use Rattle.catnap_top.specs.Replayed.{lived_of}
use Rattle.catnap_top.specs.Reply.{reply_answer}
use Rattle.catnap_top.specs.Look.{goes}
use Rattle.catnap_top.proofs.Looks.{stops_first, stops_next, passes_on}
use Rattle.catnap_top.proofs.replay.prepare_replay.Goals as goal

pub returns-in_err-files-clause-looks : goal.returns-in_err-files-clause-looks
returns-in_err-files-clause-looks c =
    passes_on reply_answer (replaying c.args.source.now c.args.profile.now c.args.trace.now c.args.arrivals.now c.args.failures.now (option_map (λ file. file.now) c.args.forecast)) c.from_residual.result c.in_err-files.field-0.0 c.from_residual.ensures.1
    (stops_first _ _ c.in_err-files.field-0.0 c.in_err-files.ensures.looks)

pub returns-in-Ok-clause-looks : goal.returns-in-Ok-clause-looks
returns-in-Ok-clause-looks c = goes c.in_ok-files.files c.in_ok-files.ensures.looks (goes (lived_of c.in-Ok.replayed) c.in-Ok.ensures.looks refl)

pub returns-in-Err-clause-looks : goal.returns-in-Err-clause-looks
returns-in-Err-clause-looks c = stops_next _ _ c.in_ok-files.files c.in-Err.stop c.in_ok-files.ensures.looks (stops_first _ _ c.in-Err.stop c.in-Err.ensures.looks)
