use Rattle.std.proofs.Common.{◌+◌, ◌≤◌, ◌⊎◌, inl, inr, sym, subst, ◌∙◌, arith}
use Rattle.std.proofs.lemmas.Bool.{cases_lt}
use Rattle.cn_base.specs.declared.TheConstants.{MOST_TICKS}
use Rattle.harvest_trace.specs.Timeline.{life_of}
use Rattle.event_arrivals.specs.Spaced.{AreSound}
use Rattle.event_queue.specs.Queue.{QueueValue}
use Rattle.event_queue.proofs.Ticks.{high_later, later_at}
use Rattle.event_queue.proofs.queue.Queue.index_to_come.Goals as goal

pub returns-then-has_come-clause-later : goal.returns-then-has_come-clause-later
returns-then-has_come-clause-later c =
    let lists = c.args.self.now.arrivals in
    let sound : AreSound lists = subst (λ (q : QueueValue). AreSound q.arrivals) c.self.view_is c.are_sound.ensures.sound in
    let bounded : life_of lists.trace ≤ MOST_TICKS = subst (λ (q : QueueValue). life_of q.arrivals.trace ≤ MOST_TICKS) c.self.view_is c.are_sound.ensures.bounded in
    let far : (c.args.now + 1 ≤ c.max.result) ⊎ (4294967295 ≤ c.max.result) = elim (cases_lt c.args.now 4294967295) [
      | inl less ↦ inl (omega (arith, less, c.max.ensures, c.saturating_add.ensures))
      | inr last ↦ inr (omega (arith, last, c.max.ensures, c.saturating_add.ensures))
    ] in
    high_later lists sound bounded c.args.now c.args.event c.max.result far

pub returns-else-has_come-clause-later : goal.returns-else-has_come-clause-later
returns-else-has_come-clause-later c = later_at c.args.self.now.arrivals c.args.now c.args.event c.args.done (sym c.has_come.ensures ∙ c.if-has_come.false)
