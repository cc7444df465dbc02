use Rattle.std.proofs.Common.{◌≡◌, ◌-◌, ◌≤◌, ◌^◌}
use Rattle.demand_core.specs.Demand.{most, rbf, sbf}
use Rattle.feasibility.proofs.plain.reserve.Given as goal

abbrev pub invariant-loop-l : goal.invariant-loop-l
invariant-loop-l l = (l.most ≡ most (λ n. rbf l.loads n - sbf l.base n) l.l) × (l.most ≤ 2 ^ 101)
