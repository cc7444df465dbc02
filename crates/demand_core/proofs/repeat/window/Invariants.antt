use Rattle.std.proofs.Common.{◌≤◌, take}
use Rattle.demand_core.specs.Demand.{IsWindow}
use Rattle.demand_core.proofs.repeat.window.Given as goal

-- the window of the loads so far
abbrev pub invariant-loop-x : goal.invariant-loop-x
invariant-loop-x l = record { is : IsWindow l.fn.p (take l.x-index l.loads) l.whole; short : l.whole ≤ 1000000 }
