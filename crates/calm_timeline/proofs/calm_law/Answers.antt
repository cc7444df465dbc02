use Rattle.calm_timeline.proofs.Whole.{calm_runs}
use Rattle.calm_timeline.proofs.calm_law.Goals as goal

pub returns : goal.returns
returns c = calm_runs (record { counts = c.arrivals_are_counted.ensures; lowest = c.one_next.ensures.lowest }) (record { within = c.runs_within_law.ensures; in_code = c.runs_are_in_code.ensures }) c.deadlines_law.ensures
