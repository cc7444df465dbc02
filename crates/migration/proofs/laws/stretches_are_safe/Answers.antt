use Rattle.migration.proofs.Stretching.{stretches}
use Rattle.migration.proofs.laws.stretches_are_safe.Goals as goal

pub returns : goal.returns
returns c = stretches c.moves_are_safe.ensures
