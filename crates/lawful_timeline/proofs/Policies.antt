-- What the policy's choices say.
use Rattle.std.proofs.Common.{◌≡◌, inl, inr, Bool, true, false, List, [], ◌∷◌, Option, Some, None, refl, sym, ap, subst, arith, slice_index}
use Rattle.std.specs.Prelude.{◌&&◌, not, nat_le, if◌then◌else◌}
use Rattle.event_queue.specs.declared.queue.Due.{Due}
use Rattle.event_queue.specs.Queue.{IsDue}
use Rattle.nv_memory.specs.Board.{State}
use Rattle.cn_scheduler.specs.declared.plan.Plan.{Plan}
use Rattle.cn_scheduler.specs.declared.choice.Choice.TheVariants.{Job, Section, Wake, Sleep}
use Rattle.cn_scheduler.specs.declared.engine.Chunk.TheVariants.{Dropped}
use Rattle.cn_scheduler.specs.InForce.{level_at, need_at, units_of}
use Rattle.cn_scheduler.specs.Point.{Point}
use Rattle.cn_scheduler.specs.Policy.{Chooses, IsNextDue, choice_with, has_step, if_dirty}
use Rattle.cn_scheduler.specs.Asked.{Ask, Asked}
use Rattle.cn_scheduler.specs.Chunks.{no_floor}

job_if : (b dirty : Bool) (e due : Due) → (if b then Job e else if_dirty dirty) ≡ Job due → e ≡ due
job_if true dirty e due is = cc
job_if false true e due is = cc
job_if false false e due is = cc

task_no_job : (a b dirty : Bool) (due : Due) → (if a then Section else if b then Wake else if_dirty dirty) ≡ Job due → ⊥
task_no_job true b dirty due is = cc
task_no_job false true dirty due is = cc
task_no_job false false true due is = cc
task_no_job false false false due is = cc

task_sleeps : (a b dirty : Bool) → (if a then Section else if b then Wake else if_dirty dirty) ≡ Sleep → dirty ≡ false
task_sleeps true b dirty is = cc
task_sleeps false true dirty is = cc
task_sleeps false false true is = cc
task_sleeps false false false is = refl

sleep_if : (b dirty : Bool) (e : Due) → (if b then Job e else if_dirty dirty) ≡ Sleep → dirty ≡ false
sleep_if true dirty e is = cc
sleep_if false true e is = cc
sleep_if false false e is = refl

module _ (plan : Plan) (p : Point) where
  job_next : (o : Option Due) (due : Due) → choice_with plan p o ≡ Job due → o ≡ Some due
  job_next None due is =
      absurd (task_no_job (has_step plan p.work && p.board.on && nat_le (need_at plan.rows p.board.tick) p.board.stored)
      (has_step plan p.work && not p.board.on && nat_le (level_at plan.rows p.board.tick) p.board.stored) p.dirty due is)
  job_next (Some e) due is = ap (λ (x : Due). Some x) (job_if (nat_le (units_of plan.rows e) p.board.stored) p.dirty e due is)

  -- the arrival of a job that is chosen is the next one
  pub chosen_due : (due : Due) → Chooses plan p (Job due) → IsDue plan.queue (slice_index p.work.done) p.board.tick due
  chosen_due due chosen =
      subst (λ (o : Option Due). IsNextDue plan.queue (slice_index p.work.done) p.board.tick o) (job_next chosen.next due (sym chosen.choice_is)) chosen.is_next

  sleeps : (o : Option Due) → choice_with plan p o ≡ Sleep → p.dirty ≡ false
  sleeps None is =
      task_sleeps (has_step plan p.work && p.board.on && nat_le (need_at plan.rows p.board.tick) p.board.stored)
      (has_step plan p.work && not p.board.on && nat_le (level_at plan.rows p.board.tick) p.board.stored) p.dirty is
  sleeps (Some e) is = sleep_if (nat_le (units_of plan.rows e) p.board.stored) p.dirty e is

  -- a working value is saved before the board sleeps
  pub chosen_clean : Chooses plan p Sleep → p.dirty ≡ false
  chosen_clean chosen = sleeps chosen.next (sym chosen.choice_is)

pub never_dropped : (plan : Plan) (asks : List Ask) (old new : State) → Asked (no_floor plan) old asks Dropped new → ⊥
never_dropped plan [] old new asked = asked
never_dropped plan (a ∷ asks) old new (inl stops) = let low = stops.0 in omega arith
never_dropped plan (a ∷ asks) old new (inr goes) = never_dropped plan asks goes.0 new goes.2
