use Rattle.object_runs.proofs.Objects.{runs_well}
use Rattle.object_runs.proofs.laws.runs_well_law.Goals as goal

pub returns : goal.returns
returns c = runs_well c.never_stuck_law.ensures c.handler_sums_law.ensures
