use Rattle.std.proofs.Common.{ℕ, ◌-◌, ◌<◌, ◌≤◌}
use Rattle.cn_plan.specs.Harvest.{IsEnough, IsCertificate}
use Rattle.cn_plan.proofs.halves.least_harvest.Given as goal

-- the harvest in hand is enough, and nothing below the others is, as the certificate shows
abbrev pub invariant-loop-low : goal.invariant-loop-low
invariant-loop-low l = record {
  narrows : l.low ≤ l.q;
  within : l.q ≤ 1000000;
  enough : IsEnough l.base l.loads l.window l.q;
  none : (less : ℕ) → less < l.low → IsEnough l.base l.loads l.window less → ⊥;
  below : IsCertificate l.base l.loads l.window l.low l.below;
}

abbrev pub decreases-loop-low : goal.decreases-loop-low
decreases-loop-low l = l.q - l.low
