use Rattle.std.proofs.Common.{◌≡◌, ◌<◌, max, drop}
use Rattle.demand_core.specs.Demand.{longest_job}
use Rattle.demand_core.proofs.demand.block.Given as goal

abbrev pub invariant-loop-x : goal.invariant-loop-x
invariant-loop-x l = (0 < l.longest) × (max l.longest (longest_job (drop l.x-index l.loads) l.l) ≡ max l.base.longest (longest_job l.loads l.l))
