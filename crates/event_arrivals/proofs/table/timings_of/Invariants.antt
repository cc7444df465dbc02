use Rattle.std.proofs.Common.{◌≡◌, ◌++◌, drop}
use Rattle.event_arrivals.specs.Arrivals.{timings_of}
use Rattle.event_arrivals.proofs.table.timings_of.Given as goal

abbrev pub invariant-events : goal.invariant-events
invariant-events l = timings_of l.program.headers ≡ l.found.items ++ timings_of (drop l.number l.program.headers)
