use Rattle.calm_timeline.proofs.Whole.{entries_end}
use Rattle.calm_timeline.proofs.entries_end_law.Goals as goal

pub returns : goal.returns
returns c = entries_end (record { counts = c.arrivals_are_counted.ensures; lowest = c.one_next.ensures.lowest }) (record { within = c.runs_within_law.ensures; in_code = c.runs_are_in_code.ensures })
