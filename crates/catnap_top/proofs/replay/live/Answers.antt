use Rattle.std.proofs.Common.{refl, subst, sym}
use Rattle.catnap_top.specs.Look.{Stops}
use Rattle.catnap_top.specs.Replay.{living}
use Rattle.catnap_top.specs.Served.{stop_of_replay}
use Rattle.catnap_top.proofs.Living.{replay_stops, tells_looks, tells_written}
use Rattle.catnap_top.proofs.Looks.{stops_first}
use Rattle.catnap_top.proofs.replay.live.Goals as goal

pub returns-in-Ok-run_out-clause-looks : goal.returns-in-Ok-run_out-clause-looks
returns-in-Ok-run_out-clause-looks c =
    let files = c.args.files in
    tells_looks c.in-Ok-run_out.replayed files c.in-Ok.prepared files.trace files.failures c.copy-own.result c.in-Ok.ensures.prepared refl refl c.copy-own.ensures c.in-Ok-run_out.ensures

pub returns-in-Ok-run_out-clause-written : goal.returns-in-Ok-run_out-clause-written
returns-in-Ok-run_out-clause-written c =
    let files = c.args.files in
    tells_written c.in-Ok-run_out.replayed files c.in-Ok.prepared files.trace files.failures c.copy-own.result c.in-Ok.ensures.prepared refl refl c.copy-own.ensures c.in-Ok-run_out.ensures

pub returns-in-Err-clause-looks : goal.returns-in-Err-clause-looks
returns-in-Err-clause-looks c =
    let files = c.args.files in
    subst (λ stop. Stops (living files) stop) (sym c.stop_for_replay.ensures)
    (stops_first _ _ (stop_of_replay files.given c.in-Err.fault) (replay_stops files.program files.device files.given files.forecast c.in-Err.fault c.in-Err.ensures.refused))
