use Rattle.std.proofs.Common.{slice_index}
use Rattle.event_queue.proofs.Ticks.{keep_sooner, keep_tick, take_sooner, take_tick}
use Rattle.event_queue.proofs.queue.Queue.first_after.Goals as goal

pub returns-in_default : goal.returns-in_default
returns-in_default c =
    keep_tick c.args.self.now.arrivals (slice_index c.args.slot.now.done) c.args.now c.args.event c.args.best (rw (← c.done.ensures) c.in_default.ensures) c.requires.best

pub returns-in-None : goal.returns-in-None
returns-in-None c =
    take_tick c.args.self.now.arrivals (slice_index c.args.slot.now.done) c.args.now c.args.event c.in-Some.tick (rw (← c.done.ensures) c.in-Some.ensures) (rw c.in-None.is at c.requires.best)

pub returns-then-tick-best : goal.returns-then-tick-best
returns-then-tick-best c =
    take_sooner c.args.self.now.arrivals (slice_index c.args.slot.now.done) c.args.now c.args.event c.in-Some.tick c.in-Some-best.best (rw (← c.done.ensures) c.in-Some.ensures) (rw c.in-Some-best.is at c.requires.best) c.if-tick-best.true

pub returns-else-tick-best : goal.returns-else-tick-best
returns-else-tick-best c =
    keep_sooner c.args.self.now.arrivals (slice_index c.args.slot.now.done) c.args.now c.args.event c.in-Some.tick c.in-Some-best.best (rw (← c.done.ensures) c.in-Some.ensures) (rw c.in-Some-best.is at c.requires.best) c.if-tick-best.false
