use Rattle.std.proofs.Common.{slice_index}
use Rattle.event_queue.specs.Queue.{IsFirst}
use Rattle.event_queue.proofs.queue.Queue.earliest.Given as goal

abbrev pub invariant-events : goal.invariant-events
invariant-events l = IsFirst l.self (slice_index l.slot.done) l.now l.event l.best
