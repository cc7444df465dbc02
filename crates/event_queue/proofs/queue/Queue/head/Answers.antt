use Rattle.std.proofs.Common.{w32, SFits, ◌≡◌, ◌+◌, Option, Some, None, refl, sym, subst, ◌∙◌, ap, slice_index, arith, rules}
use Rattle.std.proofs.lemmas.Int.{to_z-of_z}
use Rattle.event_arrivals.specs.Arrivals.{arrival_at}
use Rattle.event_queue.specs.Queue.{IsHead, IsHeadOf, QueueValue}
use Rattle.event_queue.specs.declared.queue.Due.{Due}
use Rattle.event_queue.proofs.Heads.{late_from, none_from}
use Rattle.event_queue.proofs.Ticks.{not_before}
use Rattle.event_queue.proofs.queue.Queue.head.Goals as goal

pub returns-in_default : goal.returns-in_default
returns-in_default c =
    let lists = c.self.inside.arrivals in
    let none : arrival_at lists c.args.event c.args.index ≡ None = sym c.arrival.ensures ∙ c.in_default.is in
    let seen : QueueValue → Type 0 = λ q. IsHeadOf q c.args.now c.args.event c.args.index None in
    subst seen c.self.view_is (none_from lists c.are_sound.ensures.sound.in_order c.args.now c.args.event c.args.index none)

pub returns-then-now-arrival : goal.returns-then-now-arrival
returns-then-now-arrival c =
    let lists = c.self.inside.arrivals in
    let there : arrival_at lists c.args.event c.args.index ≡ Some c.in-Some.arrival = sym c.arrival.ensures ∙ c.in-Some.is in
    let seen : QueueValue → Type 0 = λ q. IsHeadOf q c.args.now c.args.event c.args.index None in
    subst seen c.self.view_is (late_from lists c.are_sound.ensures.sound.in_order c.args.now c.args.event c.args.index c.in-Some.arrival there c.if-now-arrival.true)

pub returns : goal.returns
returns c =
    let lists = c.self.inside.arrivals in
    let there : arrival_at lists c.args.event c.args.index ≡ Some c.in-Some.arrival = sym c.arrival.ensures ∙ c.in-Some.is in
    let due : Due = record { event = c.args.event; index = c.args.index; arrived = c.in-Some.arrival.tick; deadline = c.in-Some.arrival.tick + slice_index c.as_slice.result.now c.args.event; payload = c.in-Some.arrival.payload } in
    let seen : QueueValue → Type 0 = λ q. IsHead q c.args.now c.args.event c.args.index due in
    let fits : SFits w32 c.in-Some.arrival.payload = search rules in
    simp (to_z-of_z, fits) (subst seen c.self.view_is (record {
      event_is = refl;
      index_is = refl;
      is_it = there;
      come = c.if-now-arrival.false;
      deadline = ap (λ ds. c.in-Some.arrival.tick + slice_index ds c.args.event) c.as_slice.ensures;
      first = λ k other order is. not_before lists c.are_sound.ensures.sound.in_order c.args.event c.args.index k c.in-Some.arrival other order there is;
    }))
