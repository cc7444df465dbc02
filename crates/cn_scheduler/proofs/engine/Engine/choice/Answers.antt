use Rattle.std.proofs.Common.{ℕ, None, Some, subst, slice_index}
use Rattle.event_queue.specs.Queue.{IsDue}
use Rattle.cn_scheduler.specs.Policy.{IsNextDue}
use Rattle.cn_scheduler.proofs.engine.Engine.choice.Goals as goal

pub returns-in-Some : goal.returns-in-Some
returns-in-Some g c = record {
  next = Some c.in-Some.due;
  is_next = subst (λ (t : ℕ). IsDue c.args.plan.now.queue (slice_index c.args.self.now.slot.done) t c.in-Some.due) c.tick.ensures.value c.in-Some.ensures.next;
  choice_is = c.job_choice.ensures;
}

pub returns-in-None : goal.returns-in-None
returns-in-None g c = record {
  next = None;
  is_next = subst (λ (t : ℕ). IsNextDue c.args.plan.now.queue (slice_index c.args.self.now.slot.done) t None) c.tick.ensures.value c.in-None.ensures.none;
  choice_is = c.task_choice.ensures;
}
