-- A handler from its entry to its end.
use Rattle.std.proofs.Common.{◌≡◌, ℕ, zero, suc, ◌+◌, ◌≤◌, List, [], ◌∷◌, ◌++◌, length, Option, Some, None, refl, sym, ap, ◌∙◌, subst, arith, length-append, append-nil}
use Rattle.std.specs.Prelude.{slice_get, slice_index, unwrap_or, map, ℤ}
use Rattle.cat_program.specs.Body.{Body, tree_of}
use Rattle.cat_program.specs.Meaning.{Store, handled, TaskState}
use Rattle.cat_program.specs.Places.{body_size, tasks_size, task_size, version_size, versions_size}
use Rattle.cat_program.specs.Checked.{Checked, IsChecked, bodies_of, versions_of, version_at, program_marks, simple_outs, most_outs, most_steps, VersionWorks, EachVersionWorks, EachEventWorks}
use Rattle.cat_program.specs.OutsValue.{OutsValue}
use Rattle.cat_program.specs.PartLaws.{OutputsAreFew}
use Rattle.cat_machine.specs.declared.instr.Instr.{Instr}
use Rattle.cat_machine.specs.declared.instr.Instr.TheVariants as i
use Rattle.cat_machine.specs.declared.instr.Mode.TheVariants.{Handler}
use Rattle.cat_machine.specs.declared.instr.Did.TheVariants.{Ended}
use Rattle.cat_machine.specs.CodeValue.{CodeValue, EntryAt}
use Rattle.cat_machine.specs.Held.{Held}
use Rattle.cat_machine.specs.Machine.{moved, entered, act, Ended', until}
use Rattle.cat_machine.specs.Code.{body_code, task_code, tasks_code, versions_code, versions_entries, events_code, events_entries, code_of}
use Rattle.cat_machine.specs.Fits.{HasShape, Corresponds, Stands, Idle, Within, Handling, Fits, HandlerIs, HandlerStopped, HandlerGives}
use Rattle.cat_machine.specs.LaidOut.{HasAt, one_each, VersionStands}
use Rattle.cat_machine.proofs.At.{has_front, has_rest, has_all}
use Rattle.cat_machine.proofs.Runs.{path_cost-length}
use Rattle.cat_machine.proofs.Sizes.{body_length}
use Rattle.cat_machine.proofs.Sections.{ends_after, one_ends, store_of}
use Rattle.cat_machine.proofs.Tasks.{task_code_length}
use Rattle.cat_machine.proofs.Handlers.{with_store, handler_passes}
use Rattle.cat_machine.proofs.Bounds.{handler_ones, until_within}
use Rattle.cat_machine.proofs.Fitting.{one_at, weighs_one, fits_idle}

-- ---- where a version stands

pub tasks_code_length : (bodies : List Body) (at t : ℕ) → length (tasks_code at t bodies) ≡ tasks_size bodies
tasks_code_length [] at t = refl
tasks_code_length (body ∷ bodies) at t =
    omega (arith, length-append (task_code at t body) (tasks_code (at + task_size body) (t + 1) bodies), task_code_length at t body, tasks_code_length bodies (at + task_size body) (t + 1))

pub version_length : (body : Body) (at : ℕ) → length (body_code at body ++ i.End ∷ []) ≡ version_size body
version_length body at = omega (arith, length-append (body_code at body) (i.End ∷ []), body_length body at)

pub versions_length : (bodies : List Body) (at : ℕ) → length (versions_code at bodies) ≡ versions_size bodies
versions_length [] at = refl
versions_length (body ∷ bodies) at =
    omega (arith, length-append (body_code at body ++ i.End ∷ []) (versions_code (at + version_size body) bodies), version_length body at, versions_length bodies (at + version_size body))

record FoundVersion (instrs : List Instr) (words posts : ℕ) (bodies : List Body) (v entry : ℕ) : Type 0 where
  body : Body
  item : slice_get bodies v ≡ Some body
  code_at : HasAt instrs entry (body_code entry body ++ i.End ∷ [])
  works : VersionWorks words posts body

find_version : (instrs : List Instr) (words posts : ℕ) (bodies : List Body) (at v entry : ℕ) → HasAt instrs at (versions_code at bodies) → EachVersionWorks words posts bodies → slice_get (versions_entries at bodies) v ≡ Some entry → FoundVersion instrs words posts bodies v entry
find_version instrs words posts [] at v entry has works e = cc
find_version instrs words posts (body ∷ bodies) at zero entry has works e =
    let same : at ≡ entry = cc in
    record { body = body; item = refl; code_at = subst (λ j. HasAt instrs j (body_code j body ++ i.End ∷ [])) same (has_front instrs at (body_code at body ++ i.End ∷ []) _ has); works = works.0 }
find_version instrs words posts (body ∷ bodies) at (suc v) entry has works e =
    let r = find_version instrs words posts bodies (at + version_size body) v entry (has_rest instrs at (at + version_size body) (body_code at body ++ i.End ∷ []) (versions_code (at + version_size body) bodies) (ap (λ j. at + j) (version_length body at)) has) works.1 e in
    record { body = r.body; item = r.item; code_at = r.code_at; works = r.works }

record FoundEvent (instrs : List Instr) (words posts : ℕ) (events : List (List Body)) (e : ℕ) (entries : List ℕ) : Type 0 where
  bodies : List Body
  item : slice_get events e ≡ Some bodies
  at : ℕ
  code_at : HasAt instrs at (versions_code at bodies)
  entries_are : entries ≡ versions_entries at bodies
  works : EachVersionWorks words posts bodies

find_event : (instrs : List Instr) (words posts : ℕ) (events : List (List Body)) (at e : ℕ) (entries : List ℕ) → HasAt instrs at (events_code at events) → EachEventWorks words posts events → slice_get (events_entries at events) e ≡ Some entries → FoundEvent instrs words posts events e entries
find_event instrs words posts [] at e entries has works w = cc
find_event instrs words posts (event ∷ events) at zero entries has works w =
    record { bodies = event; item = refl; at = at; code_at = has_front instrs at (versions_code at event) _ has; entries_are = cc; works = works.0 }
find_event instrs words posts (event ∷ events) at (suc e) entries has works w =
    let r = find_event instrs words posts events (at + versions_size event) e entries (has_rest instrs at (at + versions_size event) (versions_code at event) (events_code (at + versions_size event) events) (ap (λ j. at + j) (versions_length event at)) has) works.1 w in
    record { bodies = r.bodies; item = r.item; at = r.at; code_at = r.code_at; entries_are = r.entries_are; works = r.works }

has_events : (p : Checked) → HasAt (code_of p).instrs (tasks_size (bodies_of p)) (events_code (tasks_size (bodies_of p)) (versions_of p))
unfolding code_of
has_events p =
    let tasks = tasks_code 0 0 (bodies_of p) in
    let events = events_code (tasks_size (bodies_of p)) (versions_of p) in
    let h = has_all events tasks [] in
    subst (λ j. HasAt (tasks ++ events) j events) (tasks_code_length (bodies_of p) 0 0) (subst (λ l. HasAt (tasks ++ l) (length tasks) events) (append-nil events) h)

program_versions : (p : Checked) → (code_of p).versions ≡ events_entries (tasks_size (bodies_of p)) (versions_of p)
unfolding code_of
program_versions p = refl

-- a mapped item, backwards
mapped_from : {A B : Type 0} (g : A → B) (xs : List A) (k : ℕ) (y : B) → slice_get (map g xs) k ≡ Some y → (x : A) × (slice_get xs k ≡ Some x) × (g x ≡ y)
mapped_from g [] k y e = cc
mapped_from g (x ∷ xs) zero y e = (x, refl, cc)
mapped_from g (x ∷ xs) (suc k) y e = mapped_from g xs k y e

index_of_item : (xs : List ℕ) (k x : ℕ) → slice_get xs k ≡ Some x → slice_index xs k ≡ x
index_of_item [] k x e = cc
index_of_item (y ∷ xs) zero x e = cc
index_of_item (y ∷ xs) (suc k) x e = index_of_item xs k x e

pub version_stands : (p : Checked) → IsChecked p → (e v entry : ℕ) → EntryAt (code_of p) e v entry → VersionStands p e v entry
version_stands p checked e v entry at = by_event (slice_get (code_of p).versions e) refl at
  where
    by_event : (o : Option (List ℕ)) → slice_get (code_of p).versions e ≡ o → slice_get (unwrap_or o []) v ≡ Some entry → VersionStands p e v entry
    by_event None d w = cc
    by_event (Some entries) d w =
        let f = find_event (code_of p).instrs (length p.words) (length p.tasks) (versions_of p) (tasks_size (bodies_of p)) e entries (has_events p) checked.events_work (ap (λ l. slice_get l e) (sym (program_versions p)) ∙ d) in
        let g = find_version (code_of p).instrs (length p.words) (length p.tasks) f.bodies f.at v entry f.code_at f.works (ap (λ l. slice_get l v) (sym f.entries_are) ∙ w) in
        let blocks = mapped_from (λ event. map (tree_of p.blocks) event) p.events e f.bodies f.item in
        let item : slice_get (map (tree_of p.blocks) blocks.0) v ≡ Some g.body = ap (λ l. slice_get l v) blocks.2 ∙ g.item in
        let block = mapped_from (tree_of p.blocks) blocks.0 v g.body item in
        let here : version_at p e v ≡ g.body = ap (λ o. tree_of p.blocks (slice_index (unwrap_or o []) v)) blocks.1 ∙ ap (tree_of p.blocks) (index_of_item blocks.0 v block.0 block.1) ∙ block.2 in
        record {
          code_at = subst (λ b. HasAt (code_of p).instrs entry (body_code entry b ++ i.End ∷ [])) (sym here) g.code_at;
          works = subst (VersionWorks (length p.words) (length p.tasks)) (sym here) g.works;
        }

-- ---- the run of a handler

abbrev store_by : List ℤ → List ℕ → Store
store_by words posts = record { words = words; posts = posts }

pub record HandlerRuns (p : Checked) (h : Held) (s : TaskState) (e v entry : ℕ) (payload : ℤ) : Type 0 where
  pub run : Ended'
  pub ends : until 1000000 Handler (code_of p) (entered h entry payload) ≡ Some run
  pub is : HandlerIs p s e v payload run.after run.outs
  pub shape : HasShape (length p.words) (length p.tasks) run.after
  pub back : run.after.place ≡ h.place

pub handler_runs : (p : Checked) → IsChecked p → (h : Held) (s : TaskState) (e v entry : ℕ) (payload : ℤ) → Corresponds (program_marks p) h s → HasShape (length p.words) (length p.tasks) h → EntryAt (code_of p) e v entry → HandlerRuns p h s e v entry payload
unfolding act
handler_runs p checked h s e v entry payload c shape at =
    let code = code_of p in
    let stands = version_stands p checked e v entry at in
    let body = version_at p e v in
    let k = entered h entry payload in
    let none : length h.stack ≡ 0 = ap length c.empty in
    let works = subst (λ d. Rattle.cat_program.specs.Checked.EventWorks (length p.words) (length p.tasks) d body) (sym none) stands.works.works in
    let passes = handler_passes one_at one_each code (weighs_one code) (length p.words) (length p.tasks) body k entry h.stack (record { words_are = shape.words_are; posts_are = shape.posts_are }) works (has_front code.instrs entry (body_code entry body) _ stands.code_at) in
    let end = entry + body_size body in
    let at_end = has_rest code.instrs entry end (body_code entry body) (i.End ∷ []) (ap (λ j. entry + j) (body_length body entry)) stands.code_at in
    let d = handled body payload (store_of h) in
    let after : Held = record { words = d.store.words; posts = d.store.posts; place = h.place; kept = None; stack = h.stack; payload = payload } in
    let last = one_ends one_at Handler code (with_store k d.store) end h.stack i.End Ended after at_end.0 refl refl in
    let whole = ends_after one_at Handler code (moved k entry h.stack) (moved (with_store k d.store) end h.stack) after passes.cost 1 d.outs [] Ended passes.leads last in
    let long : length whole.path ≤ 1000000 = omega (arith, path_cost-length whole.path, whole.costs, passes.within, handler_ones body, stands.works.short) in
    let same : store_of h ≡ s.store = ap (λ w. store_by w h.posts) c.words ∙ ap (λ q. store_by s.store.words q) c.posts in
    record {
      run = _;
      ends = until_within Handler code whole.turns (moved k entry h.stack) _ whole.is 1000000 long;
      shape = record { words_are = passes.shape.words_are; posts_are = passes.shape.posts_are };
      back = refl;
      is = record {
        outputs = append-nil d.outs ∙ ap (λ x. (handled body payload x).outs) same;
        state = record {
          words = ap (λ x. (handled body payload x).store.words) same;
          posts = ap (λ x. (handled body payload x).store.posts) same;
          place = c.place;
          free = refl;
          empty = c.empty;
        };
      };
    }

-- what is entered fits
pub fits_entered : (p : Checked) (code : CodeValue) (h : Held) (e v entry : ℕ) (payload : ℤ) → Fits p code h → h.kept ≡ None → h.stack ≡ [] → EntryAt code e v entry → Fits p code (entered h entry payload)
fits_entered p code h e v entry payload fits free empty at = record {
  checked = fits.checked;
  code_is = fits.code_is;
  shape = record { words_are = fits.shape.words_are; posts_are = fits.shape.posts_are };
  stands = by_stands fits.stands;
}
  where
    by_stands : Stands p h → Stands p (entered h entry payload)
    by_stands (Idle idle) =
        let r = handler_runs p fits.checked h idle.state e v entry payload idle.corresponds fits.shape (subst (λ c. EntryAt c e v entry) fits.code_is at) in
        Handling h.place refl (record { run = r.run; ends = r.ends; rests = record { state = _; corresponds = r.is.state } })
    by_stands (Within f some r) = absurd (omega (arith, ap length empty))
    by_stands (Handling kept w r) = let both = sym w ∙ free in cc

-- what a handler needs, and what it gives
pub handler_needs : OutputsAreFew → (p : Checked) (code : CodeValue) (h k : Held) (e v entry spare : ℕ) (payload : ℤ) → Fits p code h → h.kept ≡ None → h.stack ≡ [] → EntryAt code e v entry → most_outs (version_at p e v) ≤ spare → k ≡ entered h entry payload → (r : Ended') × (until 1000000 Handler code k ≡ Some r) × (length r.outs ≤ spare)
handler_needs few p code h k e v entry spare payload fits free empty at le same =
    let idle = fits_idle p code h fits free empty in
    let r = handler_runs p fits.checked h idle.state e v entry payload idle.corresponds fits.shape (subst (λ c. EntryAt c e v entry) fits.code_is at) in
    (r.run, ap (λ x. until 1000000 Handler code x) same ∙ ap (λ c. until 1000000 Handler c (entered h entry payload)) fits.code_is ∙ r.ends, omega (arith, ap length r.is.outputs, few (version_at p e v) payload idle.state.store, le))

pub handler_gives : (p : Checked) (code : CodeValue) (h k new : Held) (s : TaskState) (e v entry : ℕ) (payload : ℤ) (before now : OutsValue) → Fits p code h → Corresponds (program_marks p) h s → EntryAt code e v entry → k ≡ entered h entry payload → HandlerStopped code k before new now → HandlerGives p s e v payload new before now × Fits p code new × (new.place ≡ h.place)
handler_gives p code h k new s e v entry payload before now fits same at k_is stopped =
    let r = handler_runs p fits.checked h s e v entry payload same fits.shape (subst (λ c. EntryAt c e v entry) fits.code_is at) in
    let both : Some r.run ≡ Some stopped.run =
    sym r.ends ∙ ap (λ c. until 1000000 Handler c (entered h entry payload)) (sym fits.code_is) ∙ ap (λ x. until 1000000 Handler code x) (sym k_is) ∙ stopped.from in
    let run_is : r.run ≡ stopped.run = cc in
    let after_is : r.run.after ≡ new = ap (λ (x : Ended'). x.after) run_is ∙ stopped.after in
    let outs_is : r.run.outs ≡ stopped.run.outs = ap (λ (x : Ended'). x.outs) run_is in
    let is = subst (λ x. HandlerIs p s e v payload x stopped.run.outs) after_is (subst (λ o. HandlerIs p s e v payload r.run.after o) outs_is r.is) in (
      record { outs = stopped.run.outs; is = is; entries = stopped.entries; spare = stopped.spare },
      record { checked = fits.checked; code_is = fits.code_is; shape = subst (HasShape (length p.words) (length p.tasks)) after_is r.shape; stands = Idle (record { state = _; corresponds = is.state }) },
      ap (λ (x : Held). x.place) (sym after_is) ∙ r.back,
    )
