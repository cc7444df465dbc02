use Rattle.std.proofs.Common.{◌≡◌, ℕ, ◌-◌, ◌*◌, ◌^◌, ◌<◌, ◌≤◌}
use Rattle.demand_core.specs.Demand.{rbf, sbf}
use Rattle.feasibility.proofs.kept.most_at_multiples.Given as goal

-- the greatest at the multiples so far
abbrev pub invariant-loop-l : goal.invariant-loop-l
invariant-loop-l l = record {
  turns : ℕ;
  at : l.l ≡ turns * l.spacing;
  near : l.l ≤ 2000000;
  floor : l.floor ≤ l.most;
  bound : l.most ≤ 2 ^ 101;
  each : (k : ℕ) → k < turns → rbf l.loads (k * l.spacing) - sbf l.base (k * l.spacing) ≤ l.most;
  least : (bound : ℕ) → l.floor ≤ bound → ((n : ℕ) → n < l.upto → rbf l.loads n - sbf l.base n ≤ bound) → l.most ≤ bound;
}

abbrev pub decreases-loop-l : goal.decreases-loop-l
decreases-loop-l l = l.upto - l.l
