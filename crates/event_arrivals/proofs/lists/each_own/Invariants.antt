use Rattle.std.proofs.Common.{◌≡◌, ◌++◌, drop}
use Rattle.event_arrivals.specs.Arrivals.{each_own}
use Rattle.event_arrivals.proofs.lists.each_own.Given as goal

abbrev pub invariant-events : goal.invariant-events
invariant-events l = each_own 0 l.timings l.rows ≡ l.found.items ++ each_own l.event (drop l.event l.timings) l.rows
