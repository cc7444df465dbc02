-- What a board keeps from one decision point to the next: time never goes back, and neither its life nor its store are exceeded.
use Rattle.std.proofs.Common.{◌≡◌, ℕ, ◌+◌, ◌-◌, ◌≤◌, List, [], ◌∷◌, ◌++◌, length, refl, ap, ◌∙◌, arith, inl, inr}
use Rattle.std.specs.Prelude.{min}
use Rattle.nv_memory.specs.Board.{IsDone, IsLost, State, filled}
use Rattle.nv_memory.specs.declared.entry.Op.{Op}
use Rattle.nv_memory.specs.declared.entry.Op.TheVariants as op
use Rattle.cn_scheduler.specs.Asked.{Ask, Asked, Limits, Stops, plain}
use Rattle.cn_scheduler.specs.Chunks.{Does, IsLawful, JobAsks, Early, Late, Link, no_floor, point_after}
use Rattle.cn_scheduler.specs.Point.{Point}
use Rattle.cn_scheduler.specs.declared.choice.Choice.{Choice}
use Rattle.cn_scheduler.specs.declared.choice.Choice.TheVariants.{Job, Section, Checkpoint, Wake, Sleep}
use Rattle.cn_scheduler.specs.declared.engine.Chunk.{Chunk}
use Rattle.cn_scheduler.specs.declared.engine.Chunk.TheVariants.{Ended, Dropped, Lost, Over, Full}
use Rattle.cn_scheduler.specs.declared.plan.Plan.{Plan}
use Rattle.cat_machine.specs.Machine.{Ended'}
use Rattle.event_queue.specs.declared.queue.Due.{Due}

pub record Keeps (old new : State) : Type 0 where
  pub later : old.tick ≤ new.tick
  pub life : new.life ≡ old.life
  pub cap : new.cap ≡ old.cap
  pub in_life : old.tick ≤ old.life → new.tick ≤ new.life
  pub in_cap : old.stored ≤ old.cap → new.stored ≤ new.cap

-- a store that is filled is not more than full
filled_within : (cap stored : ℕ) (passed : List ℕ) → stored ≤ cap → filled cap stored passed ≤ cap
filled_within cap stored [] le = le
filled_within cap stored (h ∷ hs) le = filled_within cap (min cap (stored + h)) hs (omega arith)

module _ (old new : State) (o : Op) where
  done_keeps : IsDone old o new → Keeps old new
  done_keeps is =
      let tick : new.tick ≡ old.tick + length is.passed = ap (λ (s : State). s.tick) is.becomes in
      let life : new.life ≡ old.life = ap (λ (s : State). s.life) is.becomes in
      let cap : new.cap ≡ old.cap = ap (λ (s : State). s.cap) is.becomes in
      let stored : new.stored ≡ filled old.cap (old.stored - is.drawn) is.passed = ap (λ (s : State). s.stored) is.becomes in
      record {
        later = omega (arith, tick);
        life = life;
        cap = cap;
        in_life = λ le. omega (arith, tick, life, is.all_ticks, is.fits);
        in_cap = λ le. let most = filled_within old.cap (old.stored - is.drawn) is.passed (omega arith) in omega (arith, stored, cap, most);
      }

  lost_keeps : IsLost old o new → Keeps old new
  lost_keeps is =
      let tick : new.tick ≡ old.tick + length is.passed = ap (λ (s : State). s.tick) is.becomes in
      let life : new.life ≡ old.life = ap (λ (s : State). s.life) is.becomes in
      let cap : new.cap ≡ old.cap = ap (λ (s : State). s.cap) is.becomes in
      let stored : new.stored ≡ filled old.cap (old.stored - is.drawn) is.passed = ap (λ (s : State). s.stored) is.becomes in
      record {
        later = omega (arith, tick);
        life = life;
        cap = cap;
        in_life = λ le. omega (arith, tick, life, is.no_more_ticks, is.fits);
        in_cap = λ le. let most = filled_within old.cap (old.stored - is.drawn) is.passed (omega arith) in omega (arith, stored, cap, most);
      }

same_keeps : (old new : State) → new ≡ old → Keeps old new
same_keeps old new is =
    let tick : new.tick ≡ old.tick = ap (λ (s : State). s.tick) is in
    let life : new.life ≡ old.life = ap (λ (s : State). s.life) is in
    let cap : new.cap ≡ old.cap = ap (λ (s : State). s.cap) is in
    let stored : new.stored ≡ old.stored = ap (λ (s : State). s.stored) is in
    record {
      later = omega (arith, tick);
      life = life;
      cap = cap;
      in_life = λ le. omega (arith, tick, life, le);
      in_cap = λ le. omega (arith, stored, cap, le);
    }

both_keep : (old mid new : State) → Keeps old mid → Keeps mid new → Keeps old new
both_keep old mid new h k =
    record {
      later = omega (arith, h.later, k.later);
      life = k.life ∙ h.life;
      cap = k.cap ∙ h.cap;
      in_life = λ le. k.in_life (h.in_life le);
      in_cap = λ le. k.in_cap (h.in_cap le);
    }

stops_keep : (l : Limits) (old new : State) (a : Ask) (outcome : Chunk) → Stops l old a outcome new → Keeps old new
stops_keep l old new a Ended h = absurd h
stops_keep l old new a Dropped h = same_keeps old new h.1
stops_keep l old new a Full h = same_keeps old new h.2
stops_keep l old new a Lost h = lost_keeps old new a.op h.2
stops_keep l old new a Over h = same_keeps old new h.2.same

asked_keep : (l : Limits) (asks : List Ask) (old new : State) (outcome : Chunk) → Asked l old asks outcome new → Keeps old new
asked_keep l [] old new Ended h = same_keeps old new h
asked_keep l [] old new Dropped h = absurd h
asked_keep l [] old new Lost h = absurd h
asked_keep l [] old new Over h = absurd h
asked_keep l [] old new Full h = absurd h
asked_keep l (a ∷ asks) old new outcome (inl h) = stops_keep l old new a outcome h
asked_keep l (a ∷ asks) old new outcome (inr h) = both_keep old h.0 new (done_keeps old h.0 a.op h.1.done) (asked_keep l asks h.0 new outcome h.2)

job_keeps : (plan : Plan) (p : Point) (due : Due) (run : Ended') (outcome : Chunk) (new : State) → JobAsks plan p due run outcome new → Keeps p.board new
job_keeps plan p due run outcome new (Early early asked) = asked_keep _ _ p.board new outcome asked
job_keeps plan p due run outcome new (Late mid asked fit fits slot commits) =
    both_keep p.board mid new (asked_keep _ _ p.board mid Ended asked) (asked_keep _ _ mid new outcome commits)

does_keep : (plan : Plan) (p q : Point) (choice : Choice) (outcome : Chunk) → Does plan p choice outcome q → Keeps p.board q.board
does_keep plan p q Section outcome is = asked_keep _ _ p.board q.board outcome is.asked
does_keep plan p q (Job due) outcome is = job_keeps plan p due is.run outcome q.board is.asks
does_keep plan p q Checkpoint outcome is = asked_keep _ _ p.board q.board outcome is.asked
does_keep plan p q Wake outcome is = asked_keep (no_floor plan) (plain op.Wake ∷ []) p.board q.board outcome is.asked
does_keep plan p q Sleep outcome is = asked_keep (no_floor plan) (plain op.Sleep ∷ []) p.board q.board outcome is.asked

-- behind some chunks of a timeline
pub points_keep : (plan : Plan) (p : Point) (before after : List Link) → IsLawful plan p (before ++ after) → Keeps p.board (point_after p before).board
points_keep plan p [] after is = same_keeps p.board p.board refl
points_keep plan p (c ∷ cs) after is =
    both_keep p.board c.after.board (point_after c.after cs).board (does_keep plan p c.after c.choice c.outcome is.0.does) (points_keep plan c.after cs after is.2)
