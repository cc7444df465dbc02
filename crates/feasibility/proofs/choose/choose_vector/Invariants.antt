use Rattle.std.proofs.Common.{ℕ, ◌<◌}
use Rattle.demand_core.specs.Demand.{IsFeasible}
use Rattle.feasibility.specs.Chosen.{vector_loads}
use Rattle.feasibility.proofs.choose.choose_vector.Given as goal

-- none of the vectors so far is feasible
abbrev pub invariant-loop-k : goal.invariant-loop-k
invariant-loop-k l = (j : ℕ) → j < l.k → IsFeasible l.base (vector_loads l.tables l.order j) l.span → ⊥
