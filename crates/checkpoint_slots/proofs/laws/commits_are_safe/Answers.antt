use Rattle.checkpoint_slots.proofs.Writes.{commits_are_safe}
use Rattle.checkpoint_slots.proofs.laws.commits_are_safe.Goals as goal

pub returns : goal.returns
returns c = commits_are_safe c.writes_are_local.ensures c.parts_are_apart.ensures
