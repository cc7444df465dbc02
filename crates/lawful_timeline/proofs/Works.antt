-- Working values at moments of a run.
use Rattle.std.proofs.Common.{◌≡◌, ◌≢◌, inl, inr, ℕ, ◌+◌, ◌<◌, ◌==◌, Bool, List, [], ◌∷◌, ◌++◌, length, map, Option, Some, None, refl, sym, ap, ◌∙◌, subst, arith, append-nil, length-append, length-set, slice_index}
use Rattle.std.specs.Prelude.{ℤ, pos, ◌⊎◌, if◌then◌else◌, slice_get, slice_set, option_map}
use Rattle.std.specs.Option.{option_map_or}
use Rattle.std.specs.List.{range_with_len}
use Rattle.std.proofs.lemmas.Bool.{cases_eq, cond-true, cond-false, eq-eqb, ne_eqb}
use Rattle.std.proofs.lemmas.List.{get_or-set_same, get_or-set_other, length-map}
use Rattle.std.proofs.lemmas.List.FromFn.{length-range_with_len}
use Rattle.std.proofs.lemmas.Option.{slice_get_within}
use Rattle.cat_program.specs.declared.outs.LogEntry.{LogEntry}
use Rattle.cat_program.specs.declared.outs.LogEntry.TheVariants.{Ran}
use Rattle.cat_program.specs.Meaning.{Output, TaskState, handled}
use Rattle.cat_program.specs.OutsValue.{entry_of}
use Rattle.cat_program.specs.Checked.{Checked, body_at, version_at}
use Rattle.cat_machine.specs.declared.instr.Did.{Did}
use Rattle.cat_machine.specs.declared.instr.Did.TheVariants.{Went, Acted, Ended, Emitted}
use Rattle.cat_machine.specs.Machine.{Ended'}
use Rattle.cat_machine.specs.Fits.{HasShape, stepped_of}
use Rattle.cat_machine.specs.Ending.{SectionEnds, HandlerEnds}
use Rattle.checkpoint_slots.specs.declared.slot.Slot.{Slot}
use Rattle.checkpoint_slots.specs.Numbers.{number_at}
use Rattle.checkpoint_slots.specs.Slot.{variables_of}
use Rattle.checkpoint_slots.specs.Image.{committed_bytes}
use Rattle.event_arrivals.specs.Arrivals.{Lists, arrival_at, arrival_by}
use Rattle.event_arrivals.specs.Next.{IsNext}
use Rattle.event_arrivals.specs.declared.arrival.Arrival.{Arrival}
use Rattle.recovery.specs.Committed.{Committed, IsCommitted}
use Rattle.reference_run.specs.Reference.{Moment, after_step, entries_of, next_moment, with_handled}
use Rattle.logged_runs.specs.Own.{IsOwn}
use Rattle.logged_runs.specs.Laws.{EntriesTell, counts_of}
use Rattle.image_meaning.specs.Standing.{IsReady, Spells, moment_of}
use Rattle.event_queue.specs.declared.queue.Due.{Due}
use Rattle.cn_scheduler.specs.declared.plan.Plan.{Plan}
use Rattle.cn_scheduler.specs.declared.plan.PlanRow.{PlanRow}
use Rattle.cn_scheduler.specs.InForce.{in_force, version_in, version_of}
use Rattle.cn_scheduler.specs.Paths.{last_outs, run_outs}
use Rattle.cn_scheduler.specs.Point.{FitsSlot, Work, held_of, slot_of, work_of}
use Rattle.cn_scheduler.specs.Chunks.{after_job, after_section}
use Rattle.lawful_timeline.specs.Working.{IsSetUp, WorksAs, setting_of, versions_at, versions_in}

-- ---- what is next

pub known : (lists : Lists) (event k : ℕ) (arrival : Arrival) → arrival_at lists event k ≡ Some arrival → event < length lists.timings
known lists event k arrival is = by_timing (slice_get lists.timings event) refl is
  where
    by_timing : (o : Option _) → slice_get lists.timings event ≡ o → arrival_by o (Rattle.std.specs.Prelude.slice_index_or lists.kept event []) lists.trace k ≡ Some arrival → event < length lists.timings
    by_timing None e is = cc
    by_timing (Some timing) e is = slice_get_within lists.timings event timing e

-- done counts that agree on the events that there are give the same next arrival
pub next_again : (lists : Lists) (deadlines : List ℕ) (done done' : ℕ → ℕ) (now event k : ℕ) (arrival : Arrival) → ((e : ℕ) → e < length lists.timings → done e ≡ done' e)
    → IsNext lists deadlines done now event k arrival → IsNext lists deadlines done' now event k arrival
next_again lists deadlines done done' now event k arrival same next = record {
  pending = record {
    to_do = (let e = same event (known lists event k arrival next.pending.is_it) in let low = next.pending.to_do in omega arith);
    is_it = next.pending.is_it;
    come = next.pending.come;
  };
  first = λ event' k' other pending. next.first event' k' other (record {
    to_do = (let e = same event' (known lists event' k' other pending.is_it) in let low = pending.to_do in omega arith);
    is_it = pending.is_it;
    come = pending.come;
  });
}

pub version_same : (rows : List PlanRow) (due : Due) → version_of rows due ≡ slice_index (versions_at rows due.arrived) due.event
version_same rows due = by_row (in_force rows due.arrived)
  where
    by_row : (o : Option PlanRow) → option_map_or (version_in due.event) o 0 ≡ slice_index (option_map_or versions_in o []) due.event
    by_row None = refl
    by_row (Some row) = refl

-- ---- working values

abbrev one_when : Bool → ℕ
one_when b = if b then 1 else 0

-- a working value of the program's shape at a moment
pub record Holds (program : Checked) (plan : Plan) (image : List ℕ) (w : Work) (m : Moment) : Type 0 where
  pub works : WorksAs program plan image w m
  pub words : length w.words ≡ length program.words
  pub posts : length w.posts ≡ length program.tasks
  pub counts : length w.done ≡ plan.layout.events

module _ (program : Checked) (plan : Plan) (set_up : IsSetUp program plan) where
  pub shape_of : (w : Work) (m : Moment) (image : List ℕ) (payload : ℤ) → Holds program plan image w m → HasShape (length program.words) (length program.tasks) (held_of w payload)
  shape_of w m image payload holds = record { words_are = holds.words; posts_are = holds.posts }

  numbers_many : (number : ℕ → ℕ) (from n : ℕ) → length (map number (range_with_len from n)) ≡ n
  numbers_many number from n = length-map (range_with_len from n) number ∙ length-range_with_len from n

  -- the committed value is a working value at its moment
  pub committed_holds : (image : List ℕ) (v : Committed) → IsCommitted plan.layout program image v → IsOwn (setting_of program plan) (moment_of v) → Holds program plan image (work_of v.slot) (moment_of v)
  committed_holds image v is own = record {
    works = record {
      state = λ payload. record { words = refl; posts = refl; place = is.rests; free = refl; empty = refl };
      steps = refl;
      len = sym is.recorded.many;
      done = is.recorded.counted;
      spells = is.recorded.entries_are;
      own = own;
    };
    words = length-map v.slot.words _ ∙ ap (λ (s : Slot). length s.words) (sym is.slot_is) ∙ numbers_many (number_at bytes) 3 plan.layout.words ∙ set_up.plan_is.layout.words;
    posts = ap (λ (s : Slot). length s.posts) (sym is.slot_is) ∙ numbers_many (number_at bytes) (3 + plan.layout.words) plan.layout.tasks ∙ set_up.plan_is.layout.tasks;
    counts = ap (λ (s : Slot). length s.done) (sym is.slot_is) ∙ numbers_many (number_at bytes) (3 + plan.layout.words + plan.layout.tasks) plan.layout.events;
  }
    where
      bytes : List ℕ
      bytes = committed_bytes plan.layout image

  -- what a save of a working value would commit
  abbrev pub value_of : Work → Moment → Committed
  value_of w m = record { slot = slot_of w; current = m.state.current; entries = m.entries }

  pub ready_of : (image : List ℕ) (w : Work) (m : Moment) → Holds program plan image w m → FitsSlot plan.layout w → IsReady plan.layout program image (value_of w m)
  ready_of image w m holds fits = record {
    rests = (holds.works.state (pos 0)).place;
    recorded = record { many = sym holds.works.len; entries_are = holds.works.spells; counted = holds.works.done };
    storable = record { again = fits.again; formed = fits.formed };
  }

  pub value_moment : (image : List ℕ) (w : Work) (m : Moment) → Holds program plan image w m → FitsSlot plan.layout w → moment_of (value_of w m) ≡ m
  value_moment image w m holds fits =
      let at = holds.works.state (pos 0) in
      let words : variables_of (slot_of w) ≡ m.state.store.words = fits.words ∙ at.words in
      let posts : w.posts ≡ m.state.store.posts = at.posts in
      let steps = holds.works.steps in
      λ k. record { state = record { store = record { words = words k; posts = posts k }; current = m.state.current }; steps = steps k; entries = m.entries }

  -- ---- after a section

  answer_entries : (d : Did) → entries_of (stepped_of d) ≡ map entry_of (last_outs d)
  answer_entries Went = refl
  answer_entries Acted = refl
  answer_entries Ended = refl
  answer_entries (Emitted channel value) = refl

  pub section_entries : (s : TaskState) (run : Ended') (ends : SectionEnds program s run) → run.outs ≡ [] → entries_of ends.step.answer ≡ map entry_of (run_outs run)
  section_entries s run ends quiet = ap entries_of (sym ends.answer) ∙ answer_entries run.did ∙ ap (λ (outs : List Output). map entry_of (outs ++ last_outs run.did)) (sym quiet)

  pub section_next : (m : Moment) (run : Ended') (ends : SectionEnds program m.state run) → next_moment (body_at program) m ≡ Some (after_step m ends.step)
  section_next m run ends = ap (option_map (after_step m)) ends.steps

  pub section_holds : (tells : EntriesTell) (old new : List ℕ) (w : Work) (m : Moment) (run : Ended') (ends : SectionEnds program m.state run) → Holds program plan old w m → run.outs ≡ []
      → Spells plan.layout program new (m.entries ++ map entry_of (run_outs run)) → IsOwn (setting_of program plan) (after_step m ends.step) → Holds program plan new (after_section w run) (after_step m ends.step)
  section_holds tells old new w m run ends holds quiet spells own =
      let entries = section_entries m.state run ends quiet in
      record {
        works = record {
          state = λ payload. record { words = ends.corresponds.words; posts = ends.corresponds.posts; place = ends.corresponds.place; free = refl; empty = refl };
          steps = (let same = holds.works.steps in omega arith);
          len = (
              let same = holds.works.len in
              let whole : length (m.entries ++ entries_of ends.step.answer) ≡ length m.entries + length (entries_of ends.step.answer) = length-append m.entries (entries_of ends.step.answer) in
              let many : length (entries_of ends.step.answer) ≡ length (run_outs run) = ap length entries ∙ length-map (run_outs run) entry_of in
              omega arith
              );
          done = λ event within. holds.works.done event within ∙ sym (tells.step_counts (body_at program) m (after_step m ends.step) event (section_next m run ends));
          spells = subst (λ (es : List LogEntry). Spells plan.layout program new (m.entries ++ es)) (sym entries) spells;
          own = own;
        };
        words = ends.shape.words_are;
        posts = ends.shape.posts_are;
        counts = holds.counts;
      }

  -- ---- after a job

  -- the moment after an arrival was handled
  abbrev pub handled_at : Moment → ℕ → ℕ → ℤ → ℕ → ℕ → Moment
  handled_at m event version payload start index = with_handled m (handled (version_at program event version) payload m.state.store) (Ran event version m.steps start index)

  pub handler_outs : (s : TaskState) (event version : ℕ) (payload : ℤ) (run : Ended') → HandlerEnds program s event version payload run → last_outs run.did ≡ []
      → run_outs run ≡ (handled (version_at program event version) payload s.store).outs
  handler_outs s event version payload run ends quiet = ap (λ (outs : List Output). run.outs ++ outs) quiet ∙ append-nil run.outs ∙ ends.is.outputs

  pub job_holds : (tells : EntriesTell) (old new : List ℕ) (w : Work) (m : Moment) (due : Due) (version start : ℕ) (run : Ended') → HandlerEnds program m.state due.event version due.payload run
      → Holds program plan old w m → last_outs run.did ≡ [] → due.event < plan.layout.events → Spells plan.layout program new (handled_at m due.event version due.payload start due.index).entries
      → IsOwn (setting_of program plan) (handled_at m due.event version due.payload start due.index) → Holds program plan new (after_job w due run) (handled_at m due.event version due.payload start due.index)
  job_holds tells old new w m due version start run ends holds quiet there spells own = record {
    works = record {
      state = λ payload. record { words = ends.is.state.words; posts = ends.is.state.posts; place = ends.is.state.place; free = refl; empty = refl };
      steps = holds.works.steps;
      len = (
          let same = holds.works.len in
          let outs = handler_outs m.state due.event version due.payload run ends quiet in
          let h = handled (version_at program due.event version) due.payload m.state.store in
          let first = length-append (m.entries ++ map entry_of (handled (version_at program due.event version) due.payload m.state.store).outs) (Ran due.event version m.steps start due.index ∷ []) in
          let second = length-append m.entries (map entry_of (handled (version_at program due.event version) due.payload m.state.store).outs) in
          let many = length-map (handled (version_at program due.event version) due.payload m.state.store).outs entry_of in
          let equal : length (run_outs run) ≡ length (handled (version_at program due.event version) due.payload m.state.store).outs = ap length outs in
          omega arith
          );
      done = λ event within. by_event event within (cases_eq event due.event);
      spells = spells;
      own = own;
    };
    words = ends.shape.words_are;
    posts = ends.shape.posts_are;
    counts = length-set w.done due.event (slice_index w.done due.event + 1) ∙ holds.counts;
  }
    where
      by_event : (event : ℕ) → event < plan.layout.events → (event ≡ due.event) ⊎ (event ≢ due.event)
          → slice_index (slice_set w.done due.event (slice_index w.done due.event + 1)) event ≡ counts_of (handled_at m due.event version due.payload start due.index).entries event
      by_event event within (inl same) =
          let tell = tells.arrival_counts m (handled (version_at program due.event version) due.payload m.state.store) event due.event version m.steps start due.index in
          let one : one_when (event == due.event) ≡ 1 = cond-true (event == due.event) 1 0 (eq-eqb event due.event same) in
          let count = holds.works.done event within in
          let set : slice_index (slice_set w.done due.event (slice_index w.done due.event + 1)) due.event ≡ slice_index w.done due.event + 1 = get_or-set_same w.done due.event (slice_index w.done due.event + 1) 0 (let many = holds.counts in omega arith) in
          let at : slice_index (slice_set w.done due.event (slice_index w.done due.event + 1)) event ≡ slice_index (slice_set w.done due.event (slice_index w.done due.event + 1)) due.event = ap (slice_index (slice_set w.done due.event (slice_index w.done due.event + 1))) same in
          let back : slice_index w.done event ≡ slice_index w.done due.event = ap (slice_index w.done) same in
          omega arith
      by_event event within (inr other) =
          let tell = tells.arrival_counts m (handled (version_at program due.event version) due.payload m.state.store) event due.event version m.steps start due.index in
          let none : one_when (event == due.event) ≡ 0 = cond-false (event == due.event) 1 0 (ne_eqb event due.event other) in
          let count = holds.works.done event within in
          let set : slice_index (slice_set w.done due.event (slice_index w.done due.event + 1)) event ≡ slice_index w.done event = get_or-set_other w.done due.event event (slice_index w.done due.event + 1) 0 other in
          omega arith
