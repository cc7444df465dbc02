use Rattle.std.proofs.Common.{◌≡◌, ◌+◌, ◌-◌, ◌/◌, Some, None, sym, subst, ◌∙◌, arith}
use Rattle.event_arrivals.specs.Arrivals.{arrival_at}
use Rattle.event_arrivals.specs.Spaced.{AreSound}
use Rattle.event_queue.specs.Queue.{QueueValue}
use Rattle.event_queue.proofs.Ticks.{come_to, later_at, tick_none, tick_some}
use Rattle.event_queue.proofs.queue.Queue.event_after.Goals as goal

pub halves-init : goal.halves-init
halves-init c = record {
  from = omega arith;
  some = c.index_to_come-high.ensures.from;
  come = λ k arrival from below is. absurd (let never : ⊥ = omega (arith, from, below) in never);
  later = c.index_to_come-high.ensures.later;
}

pub halves-preserved-then-has_come : goal.halves-preserved-then-has_come
halves-preserved-then-has_come c =
    let lists = c.args.self.now.arrivals in
    let sound : AreSound lists = subst (λ (q : QueueValue). AreSound q.arrivals) c.self.view_is c.are_sound.ensures.sound in
    record {
      from = omega (arith, c.halves.invariant.from);
      some = omega (arith, c.halves-test.true);
      come = λ k arrival from below is. come_to lists sound.in_order c.args.now c.args.event (c.halves.low + (c.halves.high - c.halves.low) / 2) (sym c.has_come.ensures ∙ c.if-has_come.true) k arrival below is;
      later = c.halves.invariant.later;
    }

pub halves-preserved : goal.halves-preserved
halves-preserved c = record {
  from = c.halves.invariant.from;
  some = omega arith;
  come = c.halves.invariant.come;
  later = later_at c.args.self.now.arrivals c.args.now c.args.event (c.halves.low + (c.halves.high - c.halves.low) / 2) (sym c.has_come.ensures ∙ c.if-has_come.false);
}

pub returns-in-None : goal.returns-in-None
returns-in-None c =
    let lists = c.args.self.now.arrivals in
    let sound : AreSound lists = subst (λ (q : QueueValue). AreSound q.arrivals) c.self.view_is c.are_sound.ensures.sound in
    let none : arrival_at lists c.args.event c.halves.low ≡ None = subst (λ (q : QueueValue). arrival_at q.arrivals c.args.event c.halves.low ≡ None) c.self.view_is (sym c.arrival.ensures ∙ c.in-None.is) in
    tick_none lists sound.in_order c.args.now c.args.event c.args.done c.halves.low c.halves.invariant.come none

pub returns-in-Some : goal.returns-in-Some
returns-in-Some c =
    let lists = c.args.self.now.arrivals in
    let sound : AreSound lists = subst (λ (q : QueueValue). AreSound q.arrivals) c.self.view_is c.are_sound.ensures.sound in
    let there : arrival_at lists c.args.event c.halves.low ≡ Some c.in-Some.arrival = subst (λ (q : QueueValue). arrival_at q.arrivals c.args.event c.halves.low ≡ Some c.in-Some.arrival) c.self.view_is (sym c.arrival.ensures ∙ c.in-Some.is) in
    let met : c.halves.high ≡ c.halves.low = omega (arith, c.halves.invariant.some, c.halves-test.false) in
    tick_some lists sound.in_order c.args.now c.args.event c.args.done c.halves.low c.in-Some.arrival c.halves.invariant.from c.halves.invariant.come there
    (c.halves.invariant.later c.in-Some.arrival (subst (λ k. arrival_at lists c.args.event k ≡ Some c.in-Some.arrival) (sym met) there))
