use Rattle.std.proofs.Common.{ℕ, ◌+◌, ◌*◌, ◌<◌, ◌≤◌, All, take}
use Rattle.demand_core.specs.Demand.{FitsAt, dbf, block, least_deadline}
use Rattle.feasibility.proofs.late.first_late.Given as goal

-- the work fits at each point of the loads so far that lies before `first`
abbrev pub invariant-loop-x : goal.invariant-loop-x
invariant-loop-x l = record {
  within : l.first ≤ l.end;
  each : All (λ x. (k : ℕ) → x.deadline + k * x.spacing < l.first → FitsAt l.base l.loads (x.deadline + k * x.spacing)) (take l.x-index l.loads);
  from : l.first < l.end → least_deadline l.loads ≤ l.first;
  late : l.first < l.end → l.first < dbf l.loads l.first + block l.base l.loads l.first;
}
