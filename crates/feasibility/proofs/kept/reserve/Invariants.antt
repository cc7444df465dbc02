use Rattle.std.proofs.Common.{ℕ, ◌-◌, ◌*◌, ◌^◌, ◌<◌, ◌≤◌, All, take}
use Rattle.demand_core.specs.Demand.{rbf, sbf, reserve}
use Rattle.feasibility.proofs.kept.reserve.Given as goal

-- the greatest at length 0 and at the multiples of the spacings so far
abbrev pub invariant-loop-x : goal.invariant-loop-x
invariant-loop-x l = record {
  first : rbf l.loads 0 - sbf l.base 0 ≤ l.most;
  each : All (λ x. (k : ℕ) → k * x.spacing < l.upto → rbf l.loads (k * x.spacing) - sbf l.base (k * x.spacing) ≤ l.most) (take l.x-index l.loads);
  covered : l.most ≤ reserve l.base l.loads l.window;
  bound : l.most ≤ 2 ^ 101;
}
