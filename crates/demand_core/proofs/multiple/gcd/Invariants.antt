use Rattle.std.proofs.Common.{ℕ}
use Rattle.demand_core.proofs.Divisors.{Divides}
use Rattle.demand_core.proofs.multiple.gcd.Given as goal

abbrev pub invariant-loop-y : goal.invariant-loop-y
invariant-loop-y l = (g : ℕ) → Divides l.x l.y g → Divides l.fn.a l.fn.b g

abbrev pub decreases-loop-y : goal.decreases-loop-y
decreases-loop-y l = l.y
