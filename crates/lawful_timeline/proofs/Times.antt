-- Each chunk but a last one takes time.
use Rattle.std.proofs.Common.{◌≡◌, inl, inr, ℕ, zero, suc, ◌+◌, ◌<◌, ◌≤◌, Bool, true, false, List, [], ◌∷◌, ◌++◌, length, map, Option, Some, None, refl, sym, ap, ◌∙◌, subst, arith}
use Rattle.std.specs.Prelude.{◌&&◌, not, nat_le, if◌then◌else◌, unwrap_or}
use Rattle.std.specs.Option.{option_map_or}
use Rattle.std.proofs.lemmas.Bool.{and_parts, leb-true}
use Rattle.cat_machine.specs.declared.instr.Mode.{Mode}
use Rattle.cat_machine.specs.declared.instr.Mode.TheVariants.{Task}
use Rattle.cat_machine.specs.CodeValue.{CodeValue}
use Rattle.cat_machine.specs.Held.{Held}
use Rattle.cat_machine.specs.Machine.{Ended', Stepping, after_step, follow, goes_on, next_of, prepended, step_of, until}
use Rattle.cat_program.specs.Meaning.{Output}
use Rattle.nv_memory.specs.declared.device.Class.{Class}
use Rattle.nv_memory.specs.declared.device.Class.TheVariants as class
use Rattle.nv_memory.specs.declared.entry.Op.{Op}
use Rattle.nv_memory.specs.declared.entry.Op.TheVariants as op
use Rattle.nv_memory.specs.Board.{State, IsDone, IsLost, ticks_of}
use Rattle.nv_log.specs.declared.log.By.TheVariants as by
use Rattle.checkpoint_slots.specs.Commit.{commit_lines, gate_write, line_write, other_at}
use Rattle.event_queue.specs.declared.queue.Due.{Due}
use Rattle.cn_scheduler.specs.declared.plan.Plan.{Plan}
use Rattle.cn_scheduler.specs.declared.plan.PlanRow.{PlanRow}
use Rattle.cn_scheduler.specs.declared.choice.Choice.{Choice}
use Rattle.cn_scheduler.specs.declared.choice.Choice.TheVariants.{Checkpoint, Job, Section, Sleep, Wake}
use Rattle.cn_scheduler.specs.declared.engine.Chunk.{Chunk}
use Rattle.cn_scheduler.specs.declared.engine.Chunk.TheVariants.{Ended, Dropped, Lost, Over, Full}
use Rattle.cn_scheduler.specs.InForce.{floor_at, floor_in, in_force, level_at, need_at, need_in, units_of}
use Rattle.cn_scheduler.specs.Paths.{acts_of, run_acts, run_outs}
use Rattle.cn_scheduler.specs.Point.{Point, held_of, slot_of}
use Rattle.cn_scheduler.specs.Policy.{Chooses, choice_with, has_step, if_dirty}
use Rattle.cn_scheduler.specs.Asked.{Ask, Asked, Limits, path_asks, plain, recording}
use Rattle.cn_scheduler.specs.Chunks.{Does, JobAsks, SleepDoes, SleepsOn, is_last, job_asks, no_floor, ran_of, task_limits, wake_asks}
use Rattle.cn_scheduler.specs.Chunks.JobAsks.{Early, Late}
use Rattle.cn_scheduler.specs.Chunks.SleepsOn.{Last_tick, Further}

-- ---- operations

abbrev pub TakeTime : State → Type 0
TakeTime s = (kind : Class) → 1 ≤ s.ticks kind

some_ticks : (ticks : Class → ℕ) (o : Op) → ((kind : Class) → 1 ≤ ticks kind) → 1 ≤ ticks_of ticks o
some_ticks ticks (op.Instr kind pc) some = some kind
some_ticks ticks (op.Emit pc at left) some = some class.Out
some_ticks ticks (op.Write at left) some = some class.Write
some_ticks ticks op.Wake some = some class.Wake
some_ticks ticks op.Sleep some = omega arith

done_later : (old new : State) (o : Op) → TakeTime old → IsDone old o new → old.tick < new.tick
done_later old new o some done =
    let later : new.tick ≡ old.tick + length done.passed = ap (λ (s : State). s.tick) done.becomes in
    let all = done.all_ticks in
    let one = some_ticks old.ticks o some in
    omega arith

lost_later : (old new : State) (o : Op) → IsLost old o new → old.tick < new.tick
lost_later old new o lost =
    let later : new.tick ≡ old.tick + length lost.passed = ap (λ (s : State). s.tick) lost.becomes in
    let one = lost.some_ticks in
    omega arith

-- time never goes back
pub asked_later : (limits : Limits) (asks : List Ask) (outcome : Chunk) (old new : State) → TakeTime old → Asked limits old asks outcome new → old.tick ≤ new.tick
asked_later limits [] Ended old new some asked = let e : new.tick ≡ old.tick = ap (λ (s : State). s.tick) asked in omega arith
asked_later limits [] Dropped old new some asked = absurd asked
asked_later limits [] Lost old new some asked = absurd asked
asked_later limits [] Over old new some asked = absurd asked
asked_later limits [] Full old new some asked = absurd asked
asked_later limits (a ∷ asks) Ended old new some (inl stops) = absurd stops
asked_later limits (a ∷ asks) Dropped old new some (inl stops) = let e : new.tick ≡ old.tick = ap (λ (s : State). s.tick) stops.1 in omega arith
asked_later limits (a ∷ asks) Full old new some (inl stops) = let e : new.tick ≡ old.tick = ap (λ (s : State). s.tick) stops.2 in omega arith
asked_later limits (a ∷ asks) Over old new some (inl stops) = let e : new.tick ≡ old.tick = ap (λ (s : State). s.tick) stops.2.same in omega arith
asked_later limits (a ∷ asks) Lost old new some (inl stops) = let less = lost_later old new a.op stops.2 in omega arith
asked_later limits (a ∷ asks) outcome old new some (inr goes) =
    let less = done_later old goes.0 a.op some goes.1.done in
    let same : goes.0.ticks ≡ old.ticks = ap (λ (s : State). s.ticks) goes.1.done.becomes in
    let rest = asked_later limits asks outcome goes.0 new (subst (λ (t : Class → ℕ). (kind : Class) → 1 ≤ t kind) (sym same) some) goes.2 in
    omega arith

pub ticks_on : (limits : Limits) (asks : List Ask) (old new : State) → Asked limits old asks Ended new → new.ticks ≡ old.ticks
ticks_on limits [] old new asked = ap (λ (s : State). s.ticks) asked
ticks_on limits (a ∷ asks) old new (inl stops) = absurd stops
ticks_on limits (a ∷ asks) old new (inr goes) = ticks_on limits asks goes.0 new goes.2 ∙ ap (λ (s : State). s.ticks) goes.1.done.becomes

not_last : (outcome : Chunk) → is_last outcome ≡ true → is_last outcome ≡ false → ⊥
not_last outcome last further = let e : true ≡ false = sym last ∙ further in cc

-- what is asked at all takes time, where the first of it may start
rises : (limits : Limits) (a : Ask) (asks : List Ask) (outcome : Chunk) (old new : State) → TakeTime old → is_last outcome ≡ false → (outcome ≡ Dropped → limits.floor old.tick ≤ old.stored)
    → Asked limits old (a ∷ asks) outcome new → old.tick < new.tick
rises limits a asks Ended old new some on above (inl stops) = absurd stops
rises limits a asks Dropped old new some on above (inl stops) = absurd (let low = stops.0 in let high = above refl in omega arith)
rises limits a asks Full old new some on above (inl stops) = absurd (not_last Full refl on)
rises limits a asks Over old new some on above (inl stops) = absurd (not_last Over refl on)
rises limits a asks Lost old new some on above (inl stops) = lost_later old new a.op stops.2
rises limits a asks outcome old new some on above (inr goes) =
    let less = done_later old goes.0 a.op some goes.1.done in
    let same : goes.0.ticks ≡ old.ticks = ap (λ (s : State). s.ticks) goes.1.done.becomes in
    let rest = asked_later limits asks outcome goes.0 new (subst (λ (t : Class → ℕ). (kind : Class) → 1 ≤ t kind) (sym same) some) goes.2 in
    omega arith

rises_behind : (plan : Plan) (xs : List Ask) (a : Ask) (outcome : Chunk) (old new : State) → TakeTime old → is_last outcome ≡ false → Asked (no_floor plan) old (xs ++ a ∷ []) outcome new → old.tick < new.tick
rises_behind plan [] a outcome old new some on asked = rises (no_floor plan) a [] outcome old new some on (λ dropped. omega arith) asked
rises_behind plan (x ∷ xs) a outcome old new some on asked = rises (no_floor plan) x (xs ++ a ∷ []) outcome old new some on (λ dropped. omega arith) asked

commit_rises : (plan : Plan) (xs : List Op) (gate : Op) (outcome : Chunk) (old new : State) → TakeTime old → is_last outcome ≡ false → Asked (no_floor plan) old (map plain (xs ++ gate ∷ [])) outcome new → old.tick < new.tick
commit_rises plan [] gate outcome old new some on asked = rises (no_floor plan) (plain gate) [] outcome old new some on (λ dropped. omega arith) asked
commit_rises plan (x ∷ xs) gate outcome old new some on asked = rises (no_floor plan) (plain x) (map plain (xs ++ gate ∷ [])) outcome old new some on (λ dropped. omega arith) asked

-- ---- sections

-- a run has an instruction
record HasFirst (path : List ℕ) : Type 0 where
  pc : ℕ
  later : List ℕ
  is : path ≡ pc ∷ later

run_first : (n : ℕ) (mode : Mode) (code : CodeValue) (h : Held) (run : Ended') → until n mode code h ≡ Some run → HasFirst run.path
unfolding until
run_first zero mode code h run is = cc
run_first (suc n) mode code h run is = by_step (step_of mode code h) is
  where
    by_rest : (s : Stepping) (outs : List Output) (o : Option Ended') → prepended (unwrap_or (next_of code h) 0 ∷ []) outs o ≡ Some run → HasFirst run.path
    by_rest s outs None is = cc
    by_rest s outs (Some rest) is = let same : unwrap_or (next_of code h) 0 ∷ rest.path ≡ run.path = cc in record { pc = unwrap_or (next_of code h) 0; later = rest.path; is = sym same }

    by_goes : (s : Stepping) (g : Option (List Output)) → follow (until n mode code) (unwrap_or (next_of code h) 0) s g ≡ Some run → HasFirst run.path
    by_goes s None is = let same : unwrap_or (next_of code h) 0 ∷ [] ≡ run.path = cc in record { pc = unwrap_or (next_of code h) 0; later = []; is = sym same }
    by_goes s (Some outs) is = by_rest s outs (until n mode code s.after) is

    by_step : (o : Option Stepping) → after_step mode (until n mode code) (unwrap_or (next_of code h) 0) o ≡ Some run → HasFirst run.path
    by_step None is = cc
    by_step (Some s) is = by_goes s (goes_on mode s.did) is

section_rises : (plan : Plan) (len : ℕ) (path : List ℕ) (outs : List Output) (outcome : Chunk) (old new : State) → HasFirst path → TakeTime old → is_last outcome ≡ false → floor_at plan.rows old.tick ≤ old.stored
    → Asked (task_limits plan) old (path_asks plan.layout len (acts_of plan.code path outs)) outcome new → old.tick < new.tick
section_rises plan len [] outs outcome old new first some on above asked = let e = first.is in cc
section_rises plan len (pc ∷ path) outs outcome old new first some on above asked = rises (task_limits plan) _ _ outcome old new some on (λ dropped. above) asked

floor_low : (rows : List PlanRow) (t : ℕ) → floor_at rows t ≤ need_at rows t
floor_low rows t = by_row (in_force rows t)
  where
    by_row : (o : Option PlanRow) → option_map_or floor_in o 0 ≤ option_map_or need_in o 0
    by_row None = omega arith
    by_row (Some row) = omega arith

job_no_section : (b dirty : Bool) (e : Due) → (if b then Job e else if_dirty dirty) ≡ Section → ⊥
job_no_section true dirty e is = cc
job_no_section false true e is = cc
job_no_section false false e is = cc

task_section : (a b dirty : Bool) → (if a then Section else if b then Wake else if_dirty dirty) ≡ Section → a ≡ true
task_section true b dirty is = refl
task_section false true dirty is = cc
task_section false false true is = cc
task_section false false false is = cc

module _ (plan : Plan) where
  section_chosen : (p : Point) (o : Option Due) → choice_with plan p o ≡ Section → need_at plan.rows p.board.tick ≤ p.board.stored
  section_chosen p (Some e) is = absurd (job_no_section (nat_le (units_of plan.rows e) p.board.stored) p.dirty e is)
  section_chosen p None is =
      let all = task_section (has_step plan p.work && p.board.on && nat_le (need_at plan.rows p.board.tick) p.board.stored) (has_step plan p.work && not p.board.on && nat_le (level_at plan.rows p.board.tick) p.board.stored) p.dirty is in
      leb-true (need_at plan.rows p.board.tick) p.board.stored (and_parts (has_step plan p.work && p.board.on) (nat_le (need_at plan.rows p.board.tick) p.board.stored) all).1

  pub section_on : (p : Point) (o : Option Due) → choice_with plan p o ≡ Section → p.board.on ≡ true
  section_on p (Some e) is = absurd (job_no_section (nat_le (units_of plan.rows e) p.board.stored) p.dirty e is)
  section_on p None is =
      let all = task_section (has_step plan p.work && p.board.on && nat_le (need_at plan.rows p.board.tick) p.board.stored) (has_step plan p.work && not p.board.on && nat_le (level_at plan.rows p.board.tick) p.board.stored) p.dirty is in
      (and_parts (has_step plan p.work) p.board.on (and_parts (has_step plan p.work && p.board.on) (nat_le (need_at plan.rows p.board.tick) p.board.stored) all).0).1

  -- ---- chunks

  job_rises : (p : Point) (due : Due) (run : Ended') (outcome : Chunk) (new : State) → TakeTime p.board → is_last outcome ≡ false → JobAsks plan p due run outcome new → p.board.tick < new.tick
  job_rises p due run outcome new some on (Early not asked) =
      rises_behind plan (wake_asks p.board.on ++ path_asks plan.layout p.work.len (run_acts plan.code run)) (recording plan.layout (p.work.len + length (run_outs run)) (ran_of plan p due) by.Write) outcome p.board new some on asked
  job_rises p due run outcome new some on (Late mid asked fits ran_fits slot_fits commits) =
      let first = rises_behind plan (wake_asks p.board.on ++ path_asks plan.layout p.work.len (run_acts plan.code run)) (recording plan.layout (p.work.len + length (run_outs run)) (ran_of plan p due) by.Write) Ended p.board mid some refl asked in
      let same = ticks_on (no_floor plan) (job_asks plan p due run) p.board mid asked in
      let rest = asked_later (no_floor plan) _ outcome mid new (subst (λ (t : Class → ℕ). (kind : Class) → 1 ≤ t kind) (sym same) some) commits in
      omega arith

  pub chunk_time : (p q : Point) (outcome : Chunk) (choice : Choice) → TakeTime p.board → is_last outcome ≡ false → Chooses plan p choice → Does plan p choice outcome q → p.board.tick < q.board.tick
  chunk_time p q outcome Section some on chosen does =
      let need = section_chosen p chosen.next (sym chosen.choice_is) in
      let low = floor_low plan.rows p.board.tick in
      section_rises plan p.work.len does.run.path (run_outs does.run) outcome p.board q.board (run_first 1000000 Task plan.code (held_of p.work does.is_section.payload) does.run does.is_section.ends) some on (omega arith) does.asked
  chunk_time p q outcome (Job due) some on chosen does = job_rises p due does.run outcome q.board some on does.asks
  chunk_time p q outcome Checkpoint some on chosen does =
      commit_rises plan (map (line_write (slot_of p.work) (other_at plan.layout p.board.image)) (commit_lines plan.layout (slot_of p.work) p.board.image)) (gate_write p.board.image) outcome p.board q.board some on does.asked
  chunk_time p q outcome Wake some on chosen does = rises (no_floor plan) (plain op.Wake) [] outcome p.board q.board some on (λ dropped. omega arith) does.asked
  chunk_time p q outcome Sleep some on chosen does = rises (no_floor plan) (plain op.Sleep) [] outcome p.board q.board some on (λ dropped. omega arith) does.asked

  -- sleep takes a tick, whatever the classes take
  tick_of_sleep : (p q : Point) (outcome : Chunk) → is_last outcome ≡ false → SleepDoes plan p outcome q → p.board.tick < q.board.tick
  tick_of_sleep p q Ended on does = by_asked does.asked
    where
      by_asked : Asked (no_floor plan) p.board (plain op.Sleep ∷ []) Ended q.board → p.board.tick < q.board.tick
      by_asked (inl stops) = absurd stops
      by_asked (inr goes) =
          let later : goes.0.tick ≡ p.board.tick + length goes.1.done.passed = ap (λ (s : State). s.tick) goes.1.done.becomes in
          let one : length goes.1.done.passed ≡ 1 = goes.1.done.all_ticks in
          let same : q.board.tick ≡ goes.0.tick = ap (λ (s : State). s.tick) goes.2 in
          omega arith
  tick_of_sleep p q Dropped on does = by_asked does.asked
    where
      by_asked : Asked (no_floor plan) p.board (plain op.Sleep ∷ []) Dropped q.board → p.board.tick < q.board.tick
      by_asked (inl stops) = absurd (let low = stops.0 in omega arith)
      by_asked (inr goes) = absurd goes.2
  tick_of_sleep p q Lost on does = by_asked does.asked
    where
      by_asked : Asked (no_floor plan) p.board (plain op.Sleep ∷ []) Lost q.board → p.board.tick < q.board.tick
      by_asked (inl stops) = lost_later p.board q.board op.Sleep stops.2
      by_asked (inr goes) = absurd goes.2
  tick_of_sleep p q Over on does = absurd (not_last Over refl on)
  tick_of_sleep p q Full on does = absurd (not_last Full refl on)

  pub sleep_time : (p q : Point) (outcome : Chunk) → is_last outcome ≡ false → SleepsOn plan p outcome q → p.board.tick < q.board.tick
  sleep_time p q outcome on (Last_tick p' q' outcome' chosen does) = tick_of_sleep p q outcome on does
  sleep_time p q outcome on (Further p' mid q' outcome' chosen does more) =
      let first = tick_of_sleep p mid Ended refl does in
      let rest = sleep_time mid q outcome on more in
      omega arith
