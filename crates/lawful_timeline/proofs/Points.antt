-- At each decision point plan, engine and board belong together, and what is begun was begun before.
use Rattle.std.proofs.Common.{◌≡◌, ◌≢◌, inl, inr, ℕ, ◌+◌, ◌<◌, ◌≤◌, true, false, List, [], ◌∷◌, ◌++◌, length, Option, Some, None, refl, sym, ap, ◌∙◌, subst, arith, length-append}
use Rattle.std.specs.Prelude.{◌⊎◌, pos}
use Rattle.std.proofs.lemmas.Bool.{cases_Bool}
use Rattle.cat_program.specs.Checked.{Checked}
use Rattle.cat_program.specs.Meaning.{Output}
use Rattle.cat_machine.specs.declared.instr.Mode.TheVariants.{Task}
use Rattle.cat_machine.specs.Fits.{Idle}
use Rattle.cat_machine.specs.Machine.{Ended'}
use Rattle.nv_memory.specs.declared.device.Class.{Class}
use Rattle.nv_memory.specs.declared.layout.Layout.{Layout}
use Rattle.nv_memory.specs.declared.entry.Op.TheVariants as op
use Rattle.nv_memory.specs.Board.{State, on_after}
use Rattle.checkpoint_slots.specs.declared.slot.Slot.{Slot}
use Rattle.checkpoint_slots.specs.Image.{committed_slot}
use Rattle.event_queue.specs.declared.queue.Due.{Due}
use Rattle.recovery.specs.Committed.{Committed}
use Rattle.reference_run.specs.Reference.{Moment}
use Rattle.logged_runs.specs.Laws.{counts_of, last_start_of}
use Rattle.image_meaning.specs.Standing.{moment_of}
use Rattle.image_meaning.specs.Laws.{ImagesStandForOne}
use Rattle.cn_scheduler.specs.declared.plan.Plan.{Plan}
use Rattle.cn_scheduler.specs.declared.choice.Choice.{Choice}
use Rattle.cn_scheduler.specs.declared.choice.Choice.TheVariants.{Checkpoint, Job, Section, Sleep, Wake}
use Rattle.cn_scheduler.specs.declared.engine.Chunk.{Chunk}
use Rattle.cn_scheduler.specs.declared.engine.Chunk.TheVariants.{Ended, Dropped, Lost, Over, Full}
use Rattle.cn_scheduler.specs.Paths.{Act, run_acts, run_outs}
use Rattle.cn_scheduler.specs.Point.{Point, Work, held_of}
use Rattle.cn_scheduler.specs.Policy.{Chooses}
use Rattle.cn_scheduler.specs.Asked.{Ask, Asked, HasRoom, Limits, ask_with, listed, outs_in, path_asks, plain}
use Rattle.cn_scheduler.specs.Chunks.{Does, IsChunk, IsLawful, JobAsks, Link, SectionDoes, WakeDoes, is_last, no_floor, task_limits}
use Rattle.cn_scheduler.specs.Chunks.JobAsks.{Early, Late}
use Rattle.cn_scheduler.specs.Belongs.{BelongTogether}
use Rattle.lawful_timeline.specs.Working.{IsSetUp}
use Rattle.lawful_timeline.specs.Claims.{Begins, EachPoint}
use Rattle.lawful_timeline.specs.Points.{BeganBefore, HasDoneNone, IsPastJobs, TakesTime}
use Rattle.lawful_timeline.proofs.Outputs.{run_puts_out}
use Rattle.lawful_timeline.proofs.Works.{shape_of}
use Rattle.lawful_timeline.proofs.Policies.{never_dropped}
use Rattle.lawful_timeline.proofs.Times.{chunk_time, section_on}
use Rattle.lawful_timeline.proofs.Begun.{none_or_before}
use Rattle.lawful_timeline.proofs.Kept.{Kept, Laws, Next, Sound, low as saved_low, no_path}
use Rattle.lawful_timeline.proofs.Whole.{one_chunk, sound_first}

-- ---- what operations leave of a board

-- its operations take as long as before
ticks_along : (limits : Limits) (asks : List Ask) (outcome : Chunk) (old new : State) → Asked limits old asks outcome new → new.ticks ≡ old.ticks
ticks_along limits [] Ended old new asked = ap (λ (s : State). s.ticks) asked
ticks_along limits [] Dropped old new asked = absurd asked
ticks_along limits [] Lost old new asked = absurd asked
ticks_along limits [] Over old new asked = absurd asked
ticks_along limits [] Full old new asked = absurd asked
ticks_along limits (a ∷ asks) Ended old new (inl stops) = absurd stops
ticks_along limits (a ∷ asks) Dropped old new (inl stops) = ap (λ (s : State). s.ticks) stops.1
ticks_along limits (a ∷ asks) Full old new (inl stops) = ap (λ (s : State). s.ticks) stops.2
ticks_along limits (a ∷ asks) Over old new (inl stops) = ap (λ (s : State). s.ticks) stops.2.same
ticks_along limits (a ∷ asks) Lost old new (inl stops) = ap (λ (s : State). s.ticks) stops.2.becomes
ticks_along limits (a ∷ asks) outcome old new (inr goes) = ticks_along limits asks outcome goes.0 new goes.2 ∙ ap (λ (s : State). s.ticks) goes.1.done.becomes

-- none of these operations switches it off
abbrev KeepOn : List Ask → Type 0
KeepOn [] = Unit {0}
KeepOn (a ∷ asks) = (on_after a.op true ≡ true) × KeepOn asks

on_along : (limits : Limits) (asks : List Ask) (outcome : Chunk) (old new : State) → outcome ≢ Lost → KeepOn asks → old.on ≡ true → Asked limits old asks outcome new → new.on ≡ true
on_along limits [] Ended old new not keep on asked = ap (λ (s : State). s.on) asked ∙ on
on_along limits [] Dropped old new not keep on asked = absurd asked
on_along limits [] Lost old new not keep on asked = absurd asked
on_along limits [] Over old new not keep on asked = absurd asked
on_along limits [] Full old new not keep on asked = absurd asked
on_along limits (a ∷ asks) Ended old new not keep on (inl stops) = absurd stops
on_along limits (a ∷ asks) Dropped old new not keep on (inl stops) = ap (λ (s : State). s.on) stops.1 ∙ on
on_along limits (a ∷ asks) Full old new not keep on (inl stops) = ap (λ (s : State). s.on) stops.2 ∙ on
on_along limits (a ∷ asks) Over old new not keep on (inl stops) = ap (λ (s : State). s.on) stops.2.same ∙ on
on_along limits (a ∷ asks) Lost old new not keep on (inl stops) = absurd (not refl)
on_along limits (a ∷ asks) outcome old new not keep on (inr goes) =
    on_along limits asks outcome goes.0 new not keep.1 (ap (λ (s : State). s.on) goes.1.done.becomes ∙ ap (on_after a.op) on ∙ keep.0) goes.2

ask_on : (l : Layout) (at pc : ℕ) (class : Class) (out : Option Output) → on_after (ask_with l at pc class out).op true ≡ true
ask_on l at pc class None = refl
ask_on l at pc class (Some o) = refl

path_on : (l : Layout) (at : ℕ) (acts : List Act) → KeepOn (path_asks l at acts)
path_on l at [] = tt
path_on l at (a ∷ acts) = (ask_on l at a.pc a.class a.out, path_on l (at + length (listed a.out)) acts)

-- each output of a path that was done had its place in the log
one_room : (l : Layout) (size at pc : ℕ) (class : Class) (out : Option Output) → at ≤ size → HasRoom size (ask_with l at pc class out).place → at + length (listed out) ≤ size
one_room l size at pc class None low room = omega arith
one_room l size at pc class (Some o) low room = omega arith

path_room : (l : Layout) (limits : Limits) (at : ℕ) (acts : List Act) (old new : State) → at ≤ limits.size → Asked limits old (path_asks l at acts) Ended new → at + length (outs_in acts) ≤ limits.size
path_room l limits at [] old new low asked = omega arith
path_room l limits at (a ∷ acts) old new low (inl stops) = absurd stops
path_room l limits at (a ∷ acts) old new low (inr goes) =
    let here = one_room l limits.size at a.pc a.class a.out low goes.1.room in
    let rest = path_room l limits (at + length (listed a.out)) acts goes.0 new here goes.2 in
    let many : length (listed a.out ++ outs_in acts) ≡ length (listed a.out) + length (outs_in acts) = length-append (listed a.out) (outs_in acts) in
    omega arith

module _ (program : Checked) (plan : Plan) where
  job_ticks : (p : Point) (due : Due) (run : Ended') (outcome : Chunk) (new : State) → JobAsks plan p due run outcome new → new.ticks ≡ p.board.ticks
  job_ticks p due run outcome new (Early not asked) = ticks_along (no_floor plan) _ outcome p.board new asked
  job_ticks p due run outcome new (Late mid asked fits ran_fits slot_fits commits) = ticks_along (no_floor plan) _ outcome mid new commits ∙ ticks_along (no_floor plan) _ Ended p.board mid asked

  ticks_same : (p q : Point) (choice : Choice) (outcome : Chunk) → Does plan p choice outcome q → q.board.ticks ≡ p.board.ticks
  ticks_same p q Section outcome does = ticks_along (task_limits plan) _ outcome p.board q.board does.asked
  ticks_same p q (Job due) outcome does = job_ticks p due does.run outcome q.board does.asks
  ticks_same p q Checkpoint outcome does = ticks_along (no_floor plan) _ outcome p.board q.board does.asked
  ticks_same p q Wake outcome does = ticks_along (no_floor plan) (plain op.Wake ∷ []) outcome p.board q.board does.asked
  ticks_same p q Sleep outcome does = ticks_along (no_floor plan) (plain op.Sleep ∷ []) outcome p.board q.board does.asked

  -- ---- a working value that isn't saved

  -- the board is on, and the log has room for its records
  abbrev IsHeld : Point → Type 0
  IsHeld q = (q.board.on ≡ true) × (q.work.len ≤ plan.layout.log)

  clash : {A : Type 0} (q : Point) → q.dirty ≡ false → q.dirty ≡ true → A
  clash q clean dirty = absurd (no_path (sym dirty ∙ clean))

  section_held : (p q : Point) (outcome : Chunk) → is_last outcome ≡ false → p.work.len ≤ plan.layout.log → p.board.on ≡ true → SectionDoes plan p outcome q → q.dirty ≡ true → IsHeld q
  section_held p q Ended further low on does dirty =
      let puts = run_puts_out 1000000 Task plan.code (held_of p.work does.is_section.payload) does.run does.is_section.ends in
      let room = path_room plan.layout (task_limits plan) p.work.len (run_acts plan.code does.run) p.board q.board low does.asked in
      let many : length (outs_in (run_acts plan.code does.run)) ≡ length (run_outs does.run) = ap (λ (outs : List Output). length outs) puts.outs in
      let len : q.work.len ≡ p.work.len + length (run_outs does.run) = ap (λ (w : Work). w.len) does.leaves.0 in (
        on_along (task_limits plan) (path_asks plan.layout p.work.len (run_acts plan.code does.run)) Ended p.board q.board (λ same. cc) (path_on plan.layout p.work.len (run_acts plan.code does.run)) on does.asked,
        omega arith,
      )
  section_held p q Dropped further low on does dirty =
      let len : q.work.len ≡ p.work.len = ap (λ (w : Work). w.len) does.leaves.0 in (
        on_along (task_limits plan) (path_asks plan.layout p.work.len (run_acts plan.code does.run)) Dropped p.board q.board (λ same. cc) (path_on plan.layout p.work.len (run_acts plan.code does.run)) on does.asked,
        omega arith,
      )
  section_held p q Lost further low on does dirty = clash q does.leaves.clean dirty
  section_held p q Over further low on does dirty = absurd (no_path further)
  section_held p q Full further low on does dirty = absurd (no_path further)

  wake_held : (p q : Point) (outcome : Chunk) → is_last outcome ≡ false → p.work.len ≤ plan.layout.log → (p.dirty ≡ true → p.board.on ≡ true) → WakeDoes plan p outcome q → q.dirty ≡ true → IsHeld q
  wake_held p q Ended further low on does dirty =
      let len : q.work.len ≡ p.work.len = ap (λ (w : Work). w.len) does.leaves.0 in
      (on_along (no_floor plan) (plain op.Wake ∷ []) Ended p.board q.board (λ same. cc) (refl, tt) (on (sym does.leaves.1 ∙ dirty)) does.asked, omega arith)
  wake_held p q Dropped further low on does dirty = absurd (never_dropped plan (plain op.Wake ∷ []) p.board q.board does.asked)
  wake_held p q Lost further low on does dirty = clash q does.leaves.clean dirty
  wake_held p q Over further low on does dirty = absurd (no_path further)
  wake_held p q Full further low on does dirty = absurd (no_path further)

  no_job_dropped : (p : Point) (due : Due) (run : Ended') (new : State) → JobAsks plan p due run Dropped new → ⊥
  no_job_dropped p due run new (Early not asked) = never_dropped plan _ p.board new asked
  no_job_dropped p due run new (Late mid asked fits ran_fits slot_fits commits) = never_dropped plan _ mid new commits

  held : (p q : Point) (choice : Choice) (outcome : Chunk) → is_last outcome ≡ false → p.work.len ≤ plan.layout.log → (p.dirty ≡ true → p.board.on ≡ true) → Chooses plan p choice → Does plan p choice outcome q
      → q.dirty ≡ true → IsHeld q
  held p q Section outcome further low on chosen does dirty = section_held p q outcome further low (section_on plan p chosen.next (sym chosen.choice_is)) does dirty
  held p q Wake outcome further low on chosen does dirty = wake_held p q outcome further low on does dirty
  held p q (Job due) Ended further low on chosen does dirty = clash q does.leaves.1 dirty
  held p q (Job due) Dropped further low on chosen does dirty = absurd (no_job_dropped p due does.run q.board does.asks)
  held p q (Job due) Lost further low on chosen does dirty = clash q does.leaves.clean dirty
  held p q (Job due) Over further low on chosen does dirty = absurd (no_path further)
  held p q (Job due) Full further low on chosen does dirty = absurd (no_path further)
  held p q Checkpoint Ended further low on chosen does dirty = clash q does.leaves.1 dirty
  held p q Checkpoint Dropped further low on chosen does dirty = absurd (never_dropped plan _ p.board q.board does.asked)
  held p q Checkpoint Lost further low on chosen does dirty = clash q does.leaves.clean dirty
  held p q Checkpoint Over further low on chosen does dirty = absurd (no_path further)
  held p q Checkpoint Full further low on chosen does dirty = absurd (no_path further)
  held p q Sleep Ended further low on chosen does dirty = clash q does.leaves.1 dirty
  held p q Sleep Dropped further low on chosen does dirty = absurd (never_dropped plan (plain op.Sleep ∷ []) p.board q.board does.asked)
  held p q Sleep Lost further low on chosen does dirty = clash q does.leaves.clean dirty
  held p q Sleep Over further low on chosen does dirty = absurd (no_path further)
  held p q Sleep Full further low on chosen does dirty = absurd (no_path further)

  -- ---- all chunks

  module _ (laws : Laws program plan) (set_up : IsSetUp program plan) (one : ImagesStandForOne plan.layout program) where
    -- what keeps pace with the board
    record IsInStep (p : Point) : Type 0 where
      steps : p.work.steps ≤ p.board.tick
      on : p.dirty ≡ true → p.board.on ≡ true
      room : p.work.len ≤ plan.layout.log

    room_saved : (p : Point) (v : Committed) (m : Moment) → Sound program plan laws set_up p.board p.work v m p.dirty → p.dirty ≡ false → p.work.len ≤ plan.layout.log
    room_saved p v m sound clean =
        let e : p.work.len ≡ v.slot.len = ap (λ (w : Work). w.len) (sound.same clean) in
        let f : (committed_slot plan.layout p.board.image).len ≡ v.slot.len = ap (λ (s : Slot). s.len) sound.committed.slot_is in
        let few : (committed_slot plan.layout p.board.image).len ≤ plan.layout.log = sound.committed.formed.len_fits in
        omega arith

    pub time_next : (p q : Point) (choice : Choice) (outcome : Chunk) → Does plan p choice outcome q → TakesTime p.board → TakesTime q.board
    time_next p q choice outcome does time = subst (λ (ticks : Class → ℕ). (kind : Class) → 1 ≤ ticks kind) (sym (ticks_same p q choice outcome does)) time

    step_next : (p : Point) (c : Link) (v x : Committed) (m : Moment) → Sound program plan laws set_up p.board p.work v m p.dirty → IsChunk plan p c → is_last c.outcome ≡ false → TakesTime p.board → IsInStep p
        → Next program plan laws set_up m x p.board.tick c.outcome c.after → IsInStep c.after
    step_next p c v x m sound is further time step next =
        record {
          steps = (
              let later = chunk_time plan p c.after c.outcome c.choice time further is.chosen is.does in
              let few = next.most in
              let here = sound.holds.works.steps in
              let there = next.sound.holds.works.steps in
              let low = step.steps in
              omega arith
              );
          on = λ dirty. (held p c.after c.choice c.outcome further step.room step.on is.chosen is.does dirty).0;
          room = by_dirty (cases_Bool c.after.dirty);
        }
      where
        by_dirty : (c.after.dirty ≡ true) ⊎ (c.after.dirty ≡ false) → c.after.work.len ≤ plan.layout.log
        by_dirty (inl dirty) = (held p c.after c.choice c.outcome further step.room step.on is.chosen is.does dirty).1
        by_dirty (inr clean) = room_saved c.after x next.moment next.sound clean

    together : (p : Point) (v : Committed) (m : Moment) → Sound program plan laws set_up p.board p.work v m p.dirty → IsInStep p → BelongTogether program plan p
    together p v m sound step =
        let many = sound.holds.works.steps in
        let saved = sound.ahead.steps in
        let few = step.steps in
        record {
          plan_is = set_up.plan_is;
          image = sound.large;
          committed = v;
          is_committed = sound.committed;
          committed_steps = omega arith;
          fits = λ payload. record {
            checked = set_up.checked;
            code_is = set_up.code_is;
            shape = shape_of program plan set_up p.work m p.board.image payload sound.holds;
            stands = Idle (record { state = m.state; corresponds = sound.holds.works.state payload });
          };
          events = sound.holds.counts ∙ set_up.plan_is.layout.events;
          steps = step.steps;
          len = saved_low program plan laws set_up p.board p.work v m p.dirty sound;
          on = step.on;
          clean = sound.same;
          ready = record {
            current = m.state.current;
            entries = m.entries;
            rests = (sound.holds.works.state (pos 0)).place;
            recorded = record { many = sym sound.holds.works.len; entries_are = sound.holds.works.spells; counted = sound.holds.works.done };
            len_fits = step.room;
          };
        }

    all_together : (cs : List Link) (p : Point) (v : Committed) (m : Moment) → Sound program plan laws set_up p.board p.work v m p.dirty → TakesTime p.board → IsInStep p → IsLawful plan p cs
        → EachPoint (BelongTogether program plan) p cs
    all_together [] p v m sound time step lawful = together p v m sound step
    all_together (c ∷ cs) p v m sound time step lawful = (
      together p v m sound step,
      λ on.
          let kept : Kept program plan laws set_up v m p.board.tick c.outcome p.board c.after = one_chunk program plan laws set_up one p c v m sound lawful.0 in
          let next : Next program plan laws set_up m kept.value p.board.tick c.outcome c.after = kept.next on in
          all_together cs c.after kept.value next.moment next.sound (time_next p c.after c.choice c.outcome lawful.0.does time) (step_next p c v kept.value m sound lawful.0 on time step next) lawful.2,
    )

    all_past : (cs : List Link) (p : Point) (v : Committed) (m : Moment) → Sound program plan laws set_up p.board p.work v m p.dirty → TakesTime p.board → (last_start_of m.entries < p.board.tick) ⊎ HasDoneNone plan p
        → IsLawful plan p cs → EachPoint (IsPastJobs program plan) p cs
    all_past [] p v m sound time before lawful = record { moment = m; works = sound.holds.works; before = before }
    all_past (c ∷ cs) p v m sound time before lawful = (
      record { moment = m; works = sound.holds.works; before = before },
      λ on.
          let kept : Kept program plan laws set_up v m p.board.tick c.outcome p.board c.after = one_chunk program plan laws set_up one p c v m sound lawful.0 in
          let next : Next program plan laws set_up m kept.value p.board.tick c.outcome c.after = kept.next on in
          let later = chunk_time plan p c.after c.outcome c.choice time on lawful.0.chosen lawful.0.does in
          let begun = next.begun in
          all_past cs c.after kept.value next.moment next.sound (time_next p c.after c.choice c.outcome lawful.0.does time) (inl (omega arith)) lawful.2,
    )

    pub belong_throughout : (p : Point) (cs : List Link) → Begins program plan p → TakesTime p.board → p.work.steps ≤ p.board.tick → IsLawful plan p cs → EachPoint (BelongTogether program plan) p cs
    belong_throughout p cs begins time few lawful =
        let sound = sound_first program plan laws set_up one p begins in
        all_together cs p begins.stands.value (moment_of begins.stands.value) (sound_first program plan laws set_up one p begins) time
        (record {
          steps = few;
          on = λ dirty. clash p begins.clean dirty;
          room = room_saved p begins.stands.value (moment_of begins.stands.value) (sound_first program plan laws set_up one p begins) begins.clean;
        })
        lawful

    pub past_throughout : (p : Point) (cs : List Link) → (b : Begins program plan p) → TakesTime p.board → BeganBefore p.board.tick b.moment.entries → IsLawful plan p cs → EachPoint (IsPastJobs program plan) p cs
    past_throughout p cs begins time began lawful =
        all_past cs p begins.stands.value (moment_of begins.stands.value) (sound_first program plan laws set_up one p begins) time
        (by (none_or_before begins.stands.value.entries p.board.tick (subst (λ (x : Moment). BeganBefore p.board.tick x.entries) (sym begins.stands.is) began))) lawful
      where
        by : ((event : ℕ) → counts_of begins.stands.value.entries event ≡ 0) ⊎ (last_start_of begins.stands.value.entries < p.board.tick) → (last_start_of begins.stands.value.entries < p.board.tick) ⊎ HasDoneNone plan p
        by (inl none) = inr (λ event within. (sound_first program plan laws set_up one p begins).holds.works.done event within ∙ none event)
        by (inr before) = inl before
