use Rattle.std.proofs.Common.{slice_index}
use Rattle.event_queue.specs.Queue.{IsFirstTick}
use Rattle.event_queue.proofs.queue.Queue.next_after.Given as goal

abbrev pub invariant-events : goal.invariant-events
invariant-events l = IsFirstTick l.self.arrivals (slice_index l.slot.done) l.now l.event l.best
