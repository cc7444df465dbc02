use Rattle.object_runs.proofs.Objects.{costs_within}
use Rattle.object_runs.proofs.laws.costs_within_law.Goals as goal

pub returns : goal.returns
returns c = costs_within c.never_stuck_law.ensures c.handler_sums_law.ensures
