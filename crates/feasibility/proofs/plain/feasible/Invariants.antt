use Rattle.std.proofs.Common.{ℕ, ◌≤◌, ◌<◌}
use Rattle.demand_core.specs.Demand.{FitsAt}
use Rattle.feasibility.proofs.plain.feasible.Given as goal

-- every length so far is within its time
abbrev pub invariant-loop-l : goal.invariant-loop-l
invariant-loop-l l = (k : ℕ) → l.first ≤ k → k < l.l → FitsAt l.base l.loads k
