use Rattle.std.proofs.Common.{◌≡◌}
use Rattle.feasibility.specs.Chosen.{versions_of}
use Rattle.feasibility.proofs.choose.versions_of.Given as goal

abbrev pub invariant-loop-event : goal.invariant-loop-event
invariant-loop-event l = l.versions.items ≡ versions_of l.front l.event
