use Rattle.same_program.proofs.Bounds.{one_bounds}
use Rattle.same_program.proofs.laws.one_bounds_law.Goals as goal

pub returns : goal.returns
returns c = λ p q d lines b c is. one_bounds p q d lines is.same b c is.first is.second
