-- Runs that have ended are steps of the tasks and handlings of events.
use Rattle.std.proofs.Common.{◌≡◌, ℕ, zero, suc, ◌+◌, ◌<◌, List, [], ◌∷◌, map, arith, length, Option, Some, None, refl, sym, ap, ◌∙◌, subst}
use Rattle.std.specs.Prelude.{ℤ, slice_get, unwrap_or}
use Rattle.std.proofs.lemmas.Option.{slice_get_within}
use Rattle.std.proofs.lemmas.List.{length-map}
use Rattle.cat_program.specs.Body.{Body, tree_of}
use Rattle.cat_program.specs.Places.{tasks_size, version_size, versions_size}
use Rattle.cat_program.specs.Meaning.{TaskState, TaskStep, task_step_of}
use Rattle.cat_program.specs.Checked.{Checked, IsChecked, HasVersion, bodies_of, versions_of, body_at, program_marks}
use Rattle.cat_machine.specs.declared.instr.Mode.TheVariants.{Task, Handler}
use Rattle.cat_machine.specs.CodeValue.{EntryAt}
use Rattle.cat_machine.specs.Held.{Held}
use Rattle.cat_machine.specs.Machine.{Ended', entered, next_of, until}
use Rattle.cat_machine.specs.Code.{code_of, events_entries, versions_entries}
use Rattle.cat_machine.specs.Fits.{HasShape, Corresponds, HandlerIs, stepped_of}
use Rattle.cat_machine.specs.Ending.{SectionEnds, HandlerEnds, RunsAreSteps}
use Rattle.cat_machine.proofs.Fitting.{Law, no_run, section_runs}
use Rattle.cat_machine.proofs.Entering.{handler_runs}

section_ends : (p : Checked) (h : Held) (s : TaskState) (run : Ended') → IsChecked p → Corresponds (program_marks p) h s → HasShape (length p.words) (length p.tasks) h
    → until 1000000 Task (code_of p) h ≡ Some run → SectionEnds p s run
section_ends p h s run checked same shape is = by_law (task_step_of (body_at p) s) refl (section_runs p checked h s same shape)
  where
    by_law : (o : Option TaskStep) → task_step_of (body_at p) s ≡ o → Law p h o → SectionEnds p s run
    by_law None e m = absurd (no_run (code_of p) h (next_of (code_of p) h) run refl m is)
    by_law (Some r) e m =
        let both : Some m.run ≡ Some run = sym m.ends ∙ is in
        let one : m.run ≡ run = cc in
        record {
          step = r;
          steps = e;
          answer = ap (λ (x : Ended'). stepped_of x.did) (sym one) ∙ m.answer;
          corresponds = subst (λ (x : Ended'). Corresponds (program_marks p) x.after r.after) one m.corresponds;
          shape = subst (λ (x : Ended'). HasShape (length p.words) (length p.tasks) x.after) one m.shape;
        }

-- an entry has its event, and as many versions as there are
entries_many : (at : ℕ) (bodies : List Body) → length (versions_entries at bodies) ≡ length bodies
entries_many at [] = refl
entries_many at (body ∷ bodies) = let rest = entries_many (at + version_size body) bodies in omega arith

event_found : (at e : ℕ) (events : List (List Body)) (entries : List ℕ) → slice_get (events_entries at events) e ≡ Some entries → (bodies : List Body) × (slice_get events e ≡ Some bodies) × (length entries ≡ length bodies)
event_found at e [] entries is = cc
event_found at zero (event ∷ events) entries is = let same : versions_entries at event ≡ entries = cc in (event, refl, ap length (sym same) ∙ entries_many at event)
event_found at (suc e) (event ∷ events) entries is = event_found (at + versions_size event) e events entries is

mapped_back : {A B : Type 0} (g : A → B) (xs : List A) (k : ℕ) (y : B) → slice_get (map g xs) k ≡ Some y → (x : A) × (slice_get xs k ≡ Some x) × (g x ≡ y)
mapped_back g [] k y e = cc
mapped_back g (x ∷ xs) zero y e = (x, refl, cc)
mapped_back g (x ∷ xs) (suc k) y e = mapped_back g xs k y e

program_versions : (p : Checked) → (code_of p).versions ≡ events_entries (tasks_size (bodies_of p)) (versions_of p)
unfolding code_of
program_versions p = refl

version_exists : (p : Checked) (event version entry : ℕ) → EntryAt (code_of p) event version entry → HasVersion p event version
version_exists p event version entry at = by_event (slice_get (code_of p).versions event) refl at
  where
    by_event : (o : Option (List ℕ)) → slice_get (code_of p).versions event ≡ o → slice_get (unwrap_or o []) version ≡ Some entry → HasVersion p event version
    by_event None e is = cc
    by_event (Some entries) e is =
        let found = event_found (tasks_size (bodies_of p)) event (versions_of p) entries (ap (λ (l : List (List ℕ)). slice_get l event) (sym (program_versions p)) ∙ e) in
        let blocks = mapped_back (λ numbers. map (tree_of p.blocks) numbers) p.events event found.0 found.1 in
        let many : length found.0 ≡ length blocks.0 = ap length (sym blocks.2) ∙ length-map blocks.0 (tree_of p.blocks) in
        let within : version < length entries = slice_get_within entries version entry is in
        let same : length (unwrap_or (slice_get p.events event) []) ≡ length blocks.0 = ap (λ (o : Option (List ℕ)). length (unwrap_or o [])) blocks.1 in
        (slice_get_within p.events event blocks.0 blocks.1, (let equal = found.2 in omega arith))

handler_ends : (p : Checked) (h : Held) (s : TaskState) (event version entry : ℕ) (payload : ℤ) (run : Ended') → IsChecked p → Corresponds (program_marks p) h s → HasShape (length p.words) (length p.tasks) h
    → EntryAt (code_of p) event version entry → until 1000000 Handler (code_of p) (entered h entry payload) ≡ Some run → HandlerEnds p s event version payload run
handler_ends p h s event version entry payload run checked same shape at is =
    let r = handler_runs p checked h s event version entry payload same shape at in
    let both : Some r.run ≡ Some run = sym r.ends ∙ is in
    let one : r.run ≡ run = cc in
    record {
      there = version_exists p event version entry at;
      is = subst (λ (x : Ended'). HandlerIs p s event version payload x.after x.outs) one r.is;
      shape = subst (λ (x : Ended'). HasShape (length p.words) (length p.tasks) x.after) one r.shape;
    }

pub runs_are_steps : (p : Checked) → RunsAreSteps p
runs_are_steps p = record { section = section_ends p; handler = handler_ends p }
