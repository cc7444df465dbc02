use Rattle.std.proofs.Common.{◌≡◌, ◌∙◌, ◌≤◌, length, ap, subst, slice_index, arith}
use Rattle.event_arrivals.specs.Spaced.{AreKnown}
use Rattle.event_queue.specs.Queue.{QueueValue}
use Rattle.event_queue.proofs.Ticks.{all_ticks, no_ticks}
use Rattle.event_queue.proofs.queue.Queue.next_after.Goals as goal

pub returns-clause-next : goal.returns-clause-next
returns-clause-next c =
    let q = c.args.self.now in
    let known : AreKnown q.arrivals = subst (λ (q : QueueValue). AreKnown q.arrivals) c.self.view_is c.are_sound.ensures.sound.known in
    let count : c.events-event-end.result ≡ length q.arrivals.timings = c.events-event-end.ensures.count ∙ ap (λ (q : QueueValue). length q.arrivals.timings) c.self.view_is in
    all_ticks q.arrivals known (slice_index c.args.slot.now.done) c.args.now c.events.event c.events.best (omega (arith, count, c.events-test.false)) c.events.invariant

pub returns-clause-none : goal.returns-clause-none
returns-clause-none c =
    let q = c.args.self.now in
    let known : AreKnown q.arrivals = subst (λ (q : QueueValue). AreKnown q.arrivals) c.self.view_is c.are_sound.ensures.sound.known in
    let count : c.events-event-end.result ≡ length q.arrivals.timings = c.events-event-end.ensures.count ∙ ap (λ (q : QueueValue). length q.arrivals.timings) c.self.view_is in
    no_ticks q.arrivals known (slice_index c.args.slot.now.done) c.args.now c.events.event c.events.best (omega (arith, count, c.events-test.false)) c.events.invariant
