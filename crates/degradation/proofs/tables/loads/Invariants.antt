use Rattle.std.proofs.Common.{◌≡◌, map, take}
use Rattle.cost_bounds.specs.BoundsValue.{versions_in}
use Rattle.degradation.specs.Choice.{load_of}
use Rattle.degradation.proofs.tables.loads.Given as goal

abbrev pub invariant-loop-v : goal.invariant-loop-v
invariant-loop-v l = l.table.items ≡ map (load_of l.event) (take l.v (versions_in l.bounds l.e))
