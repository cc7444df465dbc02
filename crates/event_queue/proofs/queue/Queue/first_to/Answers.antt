use Rattle.std.proofs.Common.{slice_index}
use Rattle.event_queue.proofs.Heads.{keep_first, keep_sooner, take_first, take_sooner}
use Rattle.event_queue.proofs.queue.Queue.first_to.Goals as goal

pub returns-in_default : goal.returns-in_default
returns-in_default c =
    keep_first c.args.self.now (slice_index c.args.slot.now.done) c.args.now c.args.event c.args.best (rw (← c.done.ensures) c.in_default.ensures) c.requires.best

pub returns-in-None : goal.returns-in-None
returns-in-None c =
    take_first c.args.self.now (slice_index c.args.slot.now.done) c.args.now c.args.event c.in-Some.due (rw (← c.done.ensures) c.in-Some.ensures) (rw c.in-None.is at c.requires.best)

pub returns-then-due-best : goal.returns-then-due-best
returns-then-due-best c =
    take_sooner c.args.self.now (slice_index c.args.slot.now.done) c.args.now c.args.event c.in-Some.due c.in-Some-best.best (rw (← c.done.ensures) c.in-Some.ensures) (rw c.in-Some-best.is at c.requires.best) c.if-due-best.true

pub returns-else-due-best : goal.returns-else-due-best
returns-else-due-best c =
    keep_sooner c.args.self.now (slice_index c.args.slot.now.done) c.args.now c.args.event c.in-Some.due c.in-Some-best.best (rw (← c.done.ensures) c.in-Some.ensures) (rw c.in-Some-best.is at c.requires.best) c.if-due-best.false
