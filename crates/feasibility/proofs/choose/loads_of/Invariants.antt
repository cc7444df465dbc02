use Rattle.std.proofs.Common.{◌≡◌}
use Rattle.feasibility.specs.Chosen.{loads_of}
use Rattle.feasibility.proofs.choose.loads_of.Given as goal

abbrev pub invariant-loop-event : goal.invariant-loop-event
invariant-loop-event l = l.loads.items ≡ loads_of l.tables l.front l.event
