use Rattle.std.proofs.Common.{◌≡◌, ◌∙◌, ◌≤◌, length, ap, subst, slice_index, arith}
use Rattle.event_arrivals.specs.Spaced.{AreSound}
use Rattle.event_queue.specs.Queue.{QueueValue}
use Rattle.event_queue.proofs.Heads.{all_next, in_bounds, none_pending}
use Rattle.event_queue.proofs.queue.Queue.earliest.Goals as goal

pub returns-clause-next : goal.returns-clause-next
returns-clause-next c =
    let q = c.args.self.now in
    let sound : AreSound q.arrivals = subst (λ (q : QueueValue). AreSound q.arrivals) c.self.view_is c.are_sound.ensures.sound in
    let count : c.events-event-end.result ≡ length q.arrivals.timings = c.events-event-end.ensures.count ∙ ap (λ (q : QueueValue). length q.arrivals.timings) c.self.view_is in
    all_next q (slice_index c.args.slot.now.done) c.args.now c.events.event sound (omega (arith, count, c.events-test.false)) c.events.best c.events.invariant

pub returns-clause-bounds : goal.returns-clause-bounds
returns-clause-bounds c =
    let q = c.args.self.now in
    let sound : AreSound q.arrivals = subst (λ (q : QueueValue). AreSound q.arrivals) c.self.view_is c.are_sound.ensures.sound in
    let count : c.events-event-end.result ≡ length q.arrivals.timings = c.events-event-end.ensures.count ∙ ap (λ (q : QueueValue). length q.arrivals.timings) c.self.view_is in
    in_bounds q (slice_index c.args.slot.now.done) c.args.now c.events.event sound (omega (arith, count, c.events-test.false))
    (λ event k arrival. c.one_next.ensures.lowest q.arrivals q.deadlines (slice_index c.args.slot.now.done) c.args.now event k arrival sound) c.events.best c.events.invariant

pub returns-clause-none : goal.returns-clause-none
returns-clause-none c =
    let q = c.args.self.now in
    let sound : AreSound q.arrivals = subst (λ (q : QueueValue). AreSound q.arrivals) c.self.view_is c.are_sound.ensures.sound in
    let count : c.events-event-end.result ≡ length q.arrivals.timings = c.events-event-end.ensures.count ∙ ap (λ (q : QueueValue). length q.arrivals.timings) c.self.view_is in
    none_pending q (slice_index c.args.slot.now.done) c.args.now c.events.event sound (omega (arith, count, c.events-test.false)) c.events.best c.events.invariant
