use Rattle.migrated_runs.proofs.Going.{go_on}
use Rattle.migrated_runs.proofs.moved_runs_go_on.Goals as goal

pub returns : goal.returns
returns c program plan = go_on c.moves_are_safe.ensures c.stretches_are_safe.ensures program plan
