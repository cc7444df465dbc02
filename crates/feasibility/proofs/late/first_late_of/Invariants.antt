use Rattle.std.proofs.Common.{◌≡◌, ℕ, ◌+◌, ◌-◌, ◌*◌, ◌<◌, ◌≤◌}
use Rattle.demand_core.specs.Demand.{FitsAt}
use Rattle.feasibility.proofs.late.first_late_of.Given as goal

-- the work fits at the points so far
abbrev pub invariant-loop-l : goal.invariant-loop-l
invariant-loop-l l = record {
  turns : ℕ;
  at : l.l ≡ l.one.deadline + turns * l.one.spacing;
  near : l.l ≤ 3000000;
  each : (k : ℕ) → k < turns → FitsAt l.base l.loads (l.one.deadline + k * l.one.spacing);
}

abbrev pub decreases-loop-l : goal.decreases-loop-l
decreases-loop-l l = l.upto - l.l
