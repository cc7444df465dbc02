use Rattle.std.proofs.Common.{◌≡◌, drop}
use Rattle.event_arrivals.specs.Rows.{reactive_named}
use Rattle.event_arrivals.proofs.names.reactive_named.Given as goal

abbrev pub invariant-events : goal.invariant-events
invariant-events l = reactive_named l.name 0 l.program.headers ≡ reactive_named l.name l.number (drop l.number l.program.headers)
