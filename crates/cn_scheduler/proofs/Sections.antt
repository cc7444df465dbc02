-- A section of the tasks, from a decision point where all belongs together.
use Rattle.std.proofs.Common.{◌≡◌, ℕ, ◌+◌, ◌≤◌, ℤ, List, [], ◌∷◌, ◌++◌, true, false, length, Option, Some, None, refl, sym, ap, ap₂, ◌∙◌, subst, arith, length-append}
use Rattle.std.specs.Prelude.{is_some, map, All}
use Rattle.std.proofs.lemmas.List.{length-map}
use Rattle.cat_program.specs.Checked.{Checked}
use Rattle.cat_program.specs.OutsValue.{entry_of}
use Rattle.cat_program.specs.Meaning.{Output}
use Rattle.cat_machine.specs.declared.instr.Mode.TheVariants.{Task}
use Rattle.cat_machine.specs.Machine.{Ended', next_of, place_or, until}
use Rattle.cat_machine.specs.Fits.{Fits}
use Rattle.cat_machine.specs.Ends.{RunsEnd, IsWhole}
use Rattle.nv_memory.specs.declared.device.Class.{Class}
use Rattle.nv_memory.specs.declared.layout.Layout.{Layout}
use Rattle.nv_memory.specs.Board.{State}
use Rattle.nv_log.specs.Append.{AppendsAreSafe}
use Rattle.checkpoint_slots.specs.Image.{committed_slot}
use Rattle.checkpoint_slots.specs.Slot.{NumbersFit}
use Rattle.recovery.specs.Laws.{CommitsLast}
use Rattle.cn_scheduler.specs.declared.plan.Plan.{Plan}
use Rattle.cn_scheduler.specs.declared.engine.Engine.{Engine}
use Rattle.cn_scheduler.specs.declared.engine.Chunk.{Chunk}
use Rattle.cn_scheduler.specs.declared.engine.Chunk.TheVariants.{Ended, Dropped, Lost}
use Rattle.cn_scheduler.specs.Point.{Work, Point, held_of, work_of}
use Rattle.cn_scheduler.specs.Policy.{has_step}
use Rattle.cn_scheduler.specs.Paths.{Act, run_acts, run_outs, IsSection}
use Rattle.cn_scheduler.specs.Asked.{listed, path_asks, Asked}
use Rattle.cn_scheduler.specs.Chunks.{task_limits, after_section, Leaves, SectionDoes}
use Rattle.cn_scheduler.specs.Belongs.{IsReady, BelongTogether}
use Rattle.cn_scheduler.specs.EnginePoint.{work_in, point_of, IsAtRest}
use Rattle.cn_scheduler.proofs.Asking.{asked_later, asked_strictly}
use Rattle.cn_scheduler.proofs.Back.{fits_rest, belongs_back}
use Rattle.cn_scheduler.proofs.Going.{Fit, are_fit, outs_are, some_acts}
use Rattle.cn_scheduler.proofs.Recorded.{IsSame, path_same, same_hold, path_hold, count_more, Hold}

pub held_at : (l : Layout) (e : Engine) → IsAtRest l e → e.working ≡ held_of (work_in e) e.working.payload
held_at l e rest = λ i. record { words = e.working.words; posts = e.working.posts; place = e.working.place; kept = rest.free i; stack = rest.empty i; payload = e.working.payload }

pub some_place : (o : Option ℕ) → is_some o ≡ true → (pc : ℕ) × (o ≡ Some pc)
some_place None h = cc
some_place (Some pc) h = (pc, refl)

asks_many : (l : Layout) (at : ℕ) (acts : List Act) → length (path_asks l at acts) ≡ length acts
asks_many l at [] = refl
asks_many l at (a ∷ acts) = omega (arith, asks_many l (at + length (listed a.out)) acts)

module _ (plan : Plan) (program : Checked) (e : Engine) (old : State) (rest : IsAtRest plan.layout e) (b : BelongTogether program plan (point_of e old)) where
  abbrev l : Layout
  l = plan.layout

  abbrev w : Work
  w = work_in e

  pub fits_now : Fits program plan.code e.working
  fits_now = subst (Fits program plan.code) (sym (held_at l e rest)) (b.fits e.working.payload)

  module _ (runs : RunsEnd) (step : has_step plan w ≡ true) where
    pub next_now : (pc : ℕ) × (next_of plan.code e.working ≡ Some pc)
    next_now = some_place (place_or plan.code e.working.posts e.working.place) step

    pub whole : IsWhole program Task plan.code e.working
    whole = runs.section program plan.code e.working next_now.0 fits_now rest.free rest.empty next_now.1

    abbrev run : Ended'
    run = whole.run

    pub is_section : IsSection plan w run
    is_section = record { payload = e.working.payload; ends = ap (until 1000000 Task plan.code) (sym (held_at l e rest)) ∙ whole.ends }

    abbrev IsAsked : Chunk → State → Type 0
    IsAsked o new = Asked (task_limits plan) old (path_asks l w.len (run_acts plan.code run)) o new

    pub section_does : (o : Chunk) (q : Point) → IsAsked o q.board → Leaves plan (point_of e old) (after_section w run) true o q → (o ≡ Ended → All Fit (run_outs run)) → SectionDoes plan (point_of e old) o q
    section_does o q asked leaves fits = record { run = run; is_section = is_section; asked = asked; leaves = leaves; fits = λ e. are_fit (run_outs run) (fits e) }

    module _ (safe : AppendsAreSafe) (last : CommitsLast) where
      pub same_after : (o : Chunk) (new : State) → IsAsked o new → IsSame l program (task_limits plan) refl safe last w.len old.image new.image b.committed
      same_after o new asked = path_same l program (task_limits plan) refl safe last (run_acts plan.code run) w.len w.len o old new b.committed b.image b.len (omega arith) b.is_committed asked

      pub later : (o : Chunk) (new : State) → IsAsked o new → old.tick ≤ new.tick
      later o new asked = asked_later (task_limits plan) (path_asks l w.len (run_acts plan.code run)) o old new asked

      -- the section was given up
      pub dropped_belongs : (q : Point) → IsAsked Dropped q.board → q.work ≡ w → q.dirty ≡ e.dirty → (q.dirty ≡ true → q.board.on ≡ true) → BelongTogether program plan q
      dropped_belongs q asked work dirty on =
          let same = same_after Dropped q.board asked in
          let t = later Dropped q.board asked in
          record {
            plan_is = b.plan_is;
            image = omega (arith, same.long, b.image);
            committed = b.committed;
            is_committed = same.committed;
            committed_steps = omega (arith, t, b.committed_steps);
            fits = subst (λ (x : Work). (payload : ℤ) → Fits program plan.code (held_of x payload)) (sym work) b.fits;
            events = subst (λ (x : Work). length x.done ≡ length program.events) (sym work) b.events;
            steps = omega (arith, t, b.steps, ap (λ (x : Work). x.steps) work);
            len = omega (arith, b.len, ap (λ (x : Work). x.len) work);
            on = on;
            clean = λ d. work ∙ b.clean (sym dirty ∙ d);
            ready = subst (IsReady program plan q.board.image) (sym work) (record {
              current = b.ready.current;
              entries = b.ready.entries;
              rests = b.ready.rests;
              recorded = record {
                many = b.ready.recorded.many;
                entries_are = same_hold l program (task_limits plan) refl safe last w.len old.image q.board.image b.committed b.ready.entries (omega (arith, b.ready.recorded.many)) same b.ready.recorded.entries_are;
                counted = b.ready.recorded.counted;
              };
              len_fits = b.ready.len_fits;
            });
          }

      -- power went
      pub lost_belongs : (q : Point) → IsAsked Lost q.board → q.work ≡ work_of (committed_slot l q.board.image) → q.dirty ≡ false → NumbersFit (committed_slot l q.board.image) → BelongTogether program plan q
      lost_belongs q asked work clean numbers =
          let same = same_after Lost q.board asked in
          let t = later Lost q.board asked in
          belongs_back program plan fits_now.checked fits_now.code_is b.plan_is q b.committed (omega (arith, same.long, b.image)) same.committed (omega (arith, t, b.committed_steps)) work clean numbers

      -- it acted
      pub ended_belongs : (q : Point) → ((kind : Class) → 1 ≤ old.ticks kind) → IsAsked Ended q.board → All Fit (run_outs run) → Fits program plan.code run.after → w.len + length (run_outs run) ≤ l.log
          → q.work ≡ after_section w run → q.dirty ≡ true → q.board.on ≡ true → BelongTogether program plan q
      ended_belongs q some asked fit after few work dirty on =
          let same = same_after Ended q.board asked in
          let idle = whole.idle in
          let rests = idle.corresponds.place in
          let many = asks_many l w.len (run_acts plan.code run) in
          let acts = some_acts Task plan.code e.working 999999 run whole.ends in
          let t = asked_strictly (task_limits plan) (path_asks l w.len (run_acts plan.code run)) old q.board (omega (arith, many, acts)) some asked in
          let outs = outs_are runs Task plan.code 1000000 e.working run whole.ends in
          let hold = path_hold l program (task_limits plan) refl safe last (run_acts plan.code run) w.len b.ready.entries old q.board b.image b.ready.recorded.many (subst (All Fit) (sym outs) fit) asked b.ready.recorded.entries_are in
          record {
            plan_is = b.plan_is;
            image = omega (arith, same.long, b.image);
            committed = b.committed;
            is_committed = same.committed;
            committed_steps = omega (arith, t, b.committed_steps);
            fits = subst (λ (x : Work). (payload : ℤ) → Fits program plan.code (held_of x payload)) (sym work)
                (fits_rest program plan.code (after_section w run) idle.state.current after.checked after.code_is after.shape.words_are after.shape.posts_are rests);
            events = subst (λ (x : Work). length x.done ≡ length program.events) (sym work) b.events;
            steps = omega (arith, t, b.steps, ap (λ (x : Work). x.steps) work);
            len = omega (arith, b.len, ap (λ (x : Work). x.len) work);
            on = λ d. on;
            clean = λ d. let both = sym dirty ∙ d in cc;
            ready = subst (IsReady program plan q.board.image) (sym work) (record {
              current = idle.state.current;
              entries = b.ready.entries ++ map entry_of (run_outs run);
              rests = rests;
              recorded = record {
                many = length-append b.ready.entries (map entry_of (run_outs run)) ∙ ap₂ (λ (x y : ℕ). x + y) b.ready.recorded.many (length-map (run_outs run) entry_of);
                entries_are = subst (λ (xs : List Output). Hold l program (task_limits plan) refl safe last q.board.image (b.ready.entries ++ map entry_of xs)) outs hold;
                counted = λ ev below. b.ready.recorded.counted ev below ∙ sym (count_more ev b.ready.entries (run_outs run));
              };
              len_fits = few;
            });
          }
