-- The policy's choice is warranted.
use Rattle.std.proofs.Common.{◌≡◌, inl, inr, Bool, true, false, Option, Some, None, refl, sym, subst}
use Rattle.std.specs.Prelude.{◌&&◌, not, nat_le, if◌then◌else◌}
use Rattle.std.proofs.lemmas.Bool.{leb-true, leb-false, and_parts, not-true}
use Rattle.event_queue.specs.declared.queue.Due.{Due}
use Rattle.cn_scheduler.specs.declared.plan.Plan.{Plan}
use Rattle.cn_scheduler.specs.declared.choice.Choice.{Choice}
use Rattle.cn_scheduler.specs.declared.choice.Choice.TheVariants.{Job, Section, Wake}
use Rattle.cn_scheduler.specs.InForce.{need_at, level_at, units_of}
use Rattle.cn_scheduler.specs.Point.{Point}
use Rattle.cn_scheduler.specs.Policy.{Chooses, has_step, if_dirty, choice_with}
use Rattle.cn_scheduler.specs.Warrants.{IsNextAt, Waits, Warrants}

module _ (plan : Plan) (p : Point) where
  rest_warranted : Waits plan p → (dirty : Bool) → p.dirty ≡ dirty → Warrants plan p (if_dirty dirty)
  rest_warranted why true is = (is, why)
  rest_warranted why false is = (is, why)

  job_warranted : (due : Due) (b : Bool) → IsNextAt plan p (Some due) → nat_le (units_of plan.rows due) p.board.stored ≡ b → Warrants plan p (if b then Job due else if_dirty p.dirty)
  job_warranted due true next is = (next, leb-true (units_of plan.rows due) p.board.stored is)
  job_warranted due false next is = rest_warranted (inr (due, next, leb-false (units_of plan.rows due) p.board.stored is)) p.dirty refl

  abbrev step : Bool
  step = has_step plan p.work

  abbrev ready : Bool
  ready = nat_le (need_at plan.rows p.board.tick) p.board.stored

  abbrev high : Bool
  high = nat_le (level_at plan.rows p.board.tick) p.board.stored

  task_warranted : (a b : Bool) → IsNextAt plan p None → (step && p.board.on && ready) ≡ a → (step && not p.board.on && high) ≡ b
      → Warrants plan p (if a then Section else if b then Wake else if_dirty p.dirty)
  task_warranted true b none is other =
      let all = and_parts (step && p.board.on) ready is in
      let both = and_parts step p.board.on all.0 in
      (none, both.0, both.1, leb-true (need_at plan.rows p.board.tick) p.board.stored all.1)
  task_warranted false true none is other =
      let all = and_parts (step && not p.board.on) high other in
      let both = and_parts step (not p.board.on) all.0 in
      (none, both.0, not-true p.board.on both.1, leb-true (level_at plan.rows p.board.tick) p.board.stored all.1)
  task_warranted false false none is other = rest_warranted (inl none) p.dirty refl

  by_next : (next : Option Due) → IsNextAt plan p next → Warrants plan p (choice_with plan p next)
  by_next None is = task_warranted (step && p.board.on && ready) (step && not p.board.on && high) is refl refl
  by_next (Some due) is = job_warranted due (nat_le (units_of plan.rows due) p.board.stored) is refl

  pub warranted : (choice : Choice) → Chooses plan p choice → Warrants plan p choice
  warranted choice c = subst (Warrants plan p) (sym c.choice_is) (by_next c.next c.is_next)
