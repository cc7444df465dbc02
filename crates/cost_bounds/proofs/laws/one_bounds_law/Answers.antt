use Rattle.cost_bounds.proofs.Once.{one_bounds}
use Rattle.cost_bounds.proofs.laws.one_bounds_law.Goals as goal

pub returns : goal.returns
returns c = one_bounds
