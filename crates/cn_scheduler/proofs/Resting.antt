-- What stays so while the board sleeps.
use Rattle.std.proofs.Common.{◌≡◌, inl, inr, ℕ, ◌≤◌, ◌<◌, List, Bool, true, false, Option, Some, None, refl, sym, ap, ◌∙◌, arith}
use Rattle.std.specs.Prelude.{◌&&◌, not, nat_le, if◌then◌else◌, slice_index}
use Rattle.std.specs.Option.{option_map_or}
use Rattle.std.proofs.lemmas.Bool.{cases_lt}
use Rattle.std.proofs.lemmas.Bool.Decides.{nat_tests}
use Rattle.nv_memory.specs.declared.board.Answer.{Answer}
use Rattle.nv_memory.specs.declared.board.Answer.TheVariants as answer
use Rattle.nv_memory.specs.declared.entry.Op.TheVariants as op
use Rattle.nv_memory.specs.Board.{State, IsDone, Sleeps, No_room, Rested, Further}
use Rattle.checkpoint_slots.specs.Image.{committed_slot}
use Rattle.event_arrivals.specs.Next.{IsPending, IsToCome}
use Rattle.event_arrivals.specs.declared.arrival.Arrival.{Arrival}
use Rattle.event_queue.specs.declared.queue.Due.{Due}
use Rattle.event_queue.specs.Queue.{QueueValue}
use Rattle.cn_scheduler.specs.declared.plan.Plan.{Plan}
use Rattle.cn_scheduler.specs.declared.plan.PlanRow.{PlanRow}
use Rattle.cn_scheduler.specs.declared.choice.Choice.TheVariants.{Job, Section, Wake, Sleep}
use Rattle.cn_scheduler.specs.InForce.{level_in, level_at, need_at, units_of}
use Rattle.cn_scheduler.specs.Point.{Work, Point, work_of}
use Rattle.cn_scheduler.specs.Policy.{IsNextDue, Chooses, has_step, if_dirty}
use Rattle.cn_scheduler.specs.Chunks.{SleepDoes, SleepsOn, Last_tick, Further as Sleeps_further}
use Rattle.cn_scheduler.specs.Steps.{chunk_of}
use Rattle.cn_scheduler.specs.Parts.{IsQuiet, IsEnough}

le_false : (a b : ℕ) → b < a → nat_le a b ≡ false
le_false a b h = grind (arith, nat_tests)

-- ---- what is next

module _ (q : QueueValue) (done : ℕ → ℕ) (now t : ℕ) (later : now ≤ t) (quiet : (event k : ℕ) (arrival : Arrival) → IsToCome q.arrivals done now event k arrival → t < arrival.tick) where
  -- what is pending then was so before
  earlier : (event k : ℕ) (arrival : Arrival) → IsPending q.arrivals done t event k arrival → IsPending q.arrivals done now event k arrival
  earlier event k arrival p = record {
    to_do = p.to_do;
    is_it = p.is_it;
    come = elim (cases_lt now arrival.tick) [
      | inl after ↦ absurd (omega (arith, p.come, quiet event k arrival (record { to_do = p.to_do; is_it = p.is_it; later = after })))
      | inr le ↦ le
    ];
  }

  pub next_stays : (next : Option Due) → IsNextDue q done now next → IsNextDue q done t next
  next_stays None none = λ event k arrival p. none event k arrival (earlier event k arrival p)
  next_stays (Some due) is = record {
    next = record {
      pending = record { to_do = is.next.pending.to_do; is_it = is.next.pending.is_it; come = omega (arith, is.next.pending.come) };
      first = λ event k other p. is.next.first event k other (earlier event k other p);
    };
    deadline = is.deadline;
  }

-- ---- what is chosen

task_rests : (step on ready high dirty : Bool) → on ≡ false → (step ≡ true → high ≡ false) → (if step && on && ready then Section else if step && not on && high then Wake else if_dirty dirty) ≡ if_dirty dirty
task_rests false on ready high dirty off low = refl
task_rests true true ready high dirty off low = cc
task_rests true false ready true dirty off low = let no = low refl in cc
task_rests true false ready false dirty off low = refl

module _ (plan : Plan) (work : Work) (dirty : Bool) (clean : dirty ≡ false) (now upto enough : ℕ) (quiet : IsQuiet plan (slice_index work.done) now upto) (next : Option Due)
    (is_next : IsNextDue plan.queue (slice_index work.done) now next) (is_enough : IsEnough plan work now next enough) where
  abbrev at_state : State → Point
  at_state s = record { board = s; work = work; dirty = dirty }

  rest_is : if_dirty dirty ≡ Sleep
  rest_is = ap if_dirty clean

  still_sleeps : (s : State) → now ≤ s.tick → s.tick < upto → s.stored < enough → s.on ≡ false → Chooses plan (at_state s) Sleep
  still_sleeps s later before low off = by_next next is_next is_enough
    where
      stays : (n : Option Due) → IsNextDue plan.queue (slice_index work.done) now n → IsNextDue plan.queue (slice_index work.done) s.tick n
      stays n is = next_stays plan.queue (slice_index work.done) now s.tick later (λ event k arrival p. omega (arith, quiet.arrivals event k arrival p)) n is

      by_next : (n : Option Due) → IsNextDue plan.queue (slice_index work.done) now n → IsEnough plan work now n enough → Chooses plan (at_state s) Sleep
      by_next None is e = record {
        next = None;
        is_next = stays None is;
        choice_is = sym (task_rests (has_step plan work) s.on (nat_le (need_at plan.rows s.tick) s.stored) (nat_le (level_at plan.rows s.tick) s.stored) dirty off
            (λ step. let same = ap (λ (o : Option PlanRow). option_map_or level_in o 0) (quiet.rows s.tick later before) in le_false (level_at plan.rows s.tick) s.stored (omega (arith, e step, same))) ∙ rest_is);
      }
      by_next (Some due) is e = record {
        next = Some due;
        is_next = stays (Some due) is;
        choice_is = sym (ap (λ (b : Bool). if b then Job due else if_dirty dirty) (le_false (units_of plan.rows due) s.stored (omega (arith, e))) ∙ rest_is);
      }

  -- one tick
  tick_asked : (s t : State) → work ≡ work_of (committed_slot plan.layout s.image) → IsDone s op.Sleep t → work ≡ work_of (committed_slot plan.layout t.image)
  tick_asked s t work_is d = work_is ∙ ap (λ (i : List ℕ). work_of (committed_slot plan.layout i)) (sym (ap (λ (x : State). x.image) d.becomes))

  tick_does : (s t : State) → work ≡ work_of (committed_slot plan.layout s.image) → IsDone s op.Sleep t → SleepDoes plan (at_state s) (chunk_of answer.Done) (at_state t)
  tick_does s t work_is d = record {
    asked = inr (t, record { above = omega arith; room = tt; done = d }, refl);
    leaves = (tick_asked s t work_is d, clean);
  }

  pub sleeps_on : (s u : State) (a : Answer) → Sleeps upto enough s a u → now ≤ s.tick → work ≡ work_of (committed_slot plan.layout s.image) → Chooses plan (at_state s) Sleep → SleepsOn plan (at_state s) (chunk_of a) (at_state u)
  sleeps_on s u a (No_room old new over) later work_is chosen =
      Last_tick (at_state old) (at_state new) (chunk_of answer.Over) chosen (record { asked = inl (omega arith, tt, over); leaves = tt })
  sleeps_on s u a (Rested old new done until) later work_is chosen = Last_tick (at_state old) (at_state new) (chunk_of answer.Done) chosen (tick_does old new work_is done)
  sleeps_on s u a (Further old mid new reply done before low rest) later work_is chosen =
      let on : now ≤ mid.tick = omega (arith, later, ap (λ (t : State). t.tick) done.becomes) in
      let off : mid.on ≡ false = ap (λ (t : State). t.on) done.becomes in
      Sleeps_further (at_state old) (at_state mid) (at_state new) (chunk_of reply) chosen (tick_does old mid work_is done)
      (sleeps_on mid new reply rest on (tick_asked old mid work_is done) (still_sleeps mid on before low off))

pub sleeps_later : (upto enough : ℕ) (s u : State) (a : Answer) → Sleeps upto enough s a u → (u.image ≡ s.image) × (s.tick ≤ u.tick)
sleeps_later upto enough s u a (No_room old new over) = (ap (λ (t : State). t.image) over.same, omega (arith, ap (λ (t : State). t.tick) over.same))
sleeps_later upto enough s u a (Rested old new done until) = (ap (λ (t : State). t.image) done.becomes, omega (arith, ap (λ (t : State). t.tick) done.becomes))
sleeps_later upto enough s u a (Further old mid new reply done before low rest) =
    let r = sleeps_later upto enough mid new reply rest in
    (r.0 ∙ ap (λ (t : State). t.image) done.becomes, omega (arith, r.1, ap (λ (t : State). t.tick) done.becomes))
