-- The code of a program is one region after another.
use Rattle.std.proofs.Common.{◌≡◌, ℕ, suc, ◌+◌, ◌≤◌, true, false, List, [], ◌∷◌, ◌++◌, length, refl, ap, ◌∙◌, subst, arith, append-nil}
use Rattle.std.specs.List.{flat_map}
use Rattle.std.proofs.lemmas.List.{length-map, length-append}
use Rattle.cat_program.specs.Body.{Body, tree_of}
use Rattle.cat_program.specs.Places.{body_size, task_size, tasks_size, version_size, versions_size, events_size}
use Rattle.cat_program.specs.Checked.{Checked, IsChecked, EachTaskWorks, EachVersionWorks, EachEventWorks, bodies_of, versions_of}
use Rattle.cat_machine.specs.declared.instr.Instr.{Instr}
use Rattle.cat_machine.specs.declared.instr.Instr.TheVariants as i
use Rattle.cat_machine.specs.Code.{body_code, task_code, tasks_code, tasks_entries, versions_code, versions_entries, events_code, events_entries, code_of}
use Rattle.cat_machine.specs.LaidOut.{HasAt, CodeIsLaidOut}
use Rattle.cn_object.specs.Regions.{all_entries}
use Rattle.compiled_objects.proofs.Bodies.{task_stretch, event_stretch}
use Rattle.compiled_objects.proofs.Regions.{Whole, IsRegion, in_region, Regions, NoMore, Another, join_regions}

module _ (w : Whole) (laid : CodeIsLaidOut) where
  abbrev L : List Instr
  L = w.code.instrs

  ends_as : (k low end end' : ℕ) (entries : List ℕ) → end ≡ end' → Regions w k low entries end → Regions w k low entries end'
  ends_as k low end end' entries e r = subst (λ z. Regions w k low entries z) e r

  number_as : (k k' low end : ℕ) (entries : List ℕ) → k ≡ k' → Regions w k low entries end → Regions w k' low entries end
  number_as k k' low end entries e r = subst (λ z. Regions w z low entries end) e r

  tasks_regions : (bodies : List Body) (t at : ℕ) → HasAt L at (tasks_code at t bodies) → EachTaskWorks w.words w.posts bodies → t + length bodies ≡ w.tasks → Regions w t at (tasks_entries at bodies) (at + tasks_size bodies)
  tasks_regions [] t at has works many = NoMore (omega arith)
  tasks_regions (body ∷ bodies) t at has works many =
      let high = at + task_size body in
      let last = at + 1 + body_size body in
      let front = laid.stands.front L at (task_code at t body) (tasks_code high (t + 1) bodies) has in
      let back = laid.stands.rest L at high (task_code at t body) (tasks_code high (t + 1) bodies) (ap (λ j. at + j) (laid.sizes.task at t body)) has in
      let body_at = laid.stands.front L (at + 1) (body_code (at + 1) body) (i.End ∷ []) front.1 in
      let end_at = laid.stands.rest L (at + 1) last (body_code (at + 1) body) (i.End ∷ []) (ap (λ j. at + 1 + j) (laid.sizes.body body (at + 1))) front.1 in
      let region : IsRegion w t at high = record {
        task = true;
        first = at + 1;
        last = last;
        opened = (omega (arith, many), refl, front.0);
        stretch = task_stretch (in_region w true at high) laid body (at + 1) refl works.0 body_at;
        ended = end_at.0;
        just_after = omega arith;
      } in
      let others = tasks_regions bodies (t + 1) high back works.1 (omega (arith, many)) in
      let next : t + 1 ≡ suc t = omega arith in
      ends_as t at (high + tasks_size bodies) (at + (task_size body + tasks_size bodies)) (at ∷ tasks_entries high bodies) (omega arith)
      (Another high region (number_as (t + 1) (suc t) high (high + tasks_size bodies) (tasks_entries high bodies) next others))

  versions_regions : (bodies : List Body) (k at : ℕ) → HasAt L at (versions_code at bodies) → EachVersionWorks w.words w.posts bodies → w.tasks ≤ k → Regions w k at (versions_entries at bodies) (at + versions_size bodies)
  versions_regions [] k at has works many = NoMore (omega arith)
  versions_regions (body ∷ bodies) k at has works many =
      let high = at + version_size body in
      let last = at + body_size body in
      let own = body_code at body ++ i.End ∷ [] in
      let front = laid.stands.front L at own (versions_code high bodies) has in
      let back = laid.stands.rest L at high own (versions_code high bodies) (ap (λ j. at + j) (laid.sizes.version body at)) has in
      let body_at = laid.stands.front L at (body_code at body) (i.End ∷ []) front in
      let end_at = laid.stands.rest L at last (body_code at body) (i.End ∷ []) (ap (λ j. at + j) (laid.sizes.body body at)) front in
      let region : IsRegion w k at high = record {
        task = false;
        first = at;
        last = last;
        opened = (many, refl);
        stretch = event_stretch (in_region w false at high) laid body 0 at refl (omega arith) works.0.works body_at;
        ended = end_at.0;
        just_after = omega arith;
      } in
      let others = versions_regions bodies (suc k) high back works.1 (omega (arith, many)) in
      ends_as k at (high + versions_size bodies) (at + (version_size body + versions_size bodies)) (at ∷ versions_entries high bodies) (omega arith) (Another high region others)

  events_regions : (events : List (List Body)) (k at : ℕ) → HasAt L at (events_code at events) → EachEventWorks w.words w.posts events → w.tasks ≤ k → Regions w k at (flat_map (λ (entries : List ℕ). entries) (events_entries at events)) (at + events_size events)
  events_regions [] k at has works many = NoMore (omega arith)
  events_regions (event ∷ events) k at has works many =
      let mid = at + versions_size event in
      let front = laid.stands.front L at (versions_code at event) (events_code mid events) has in
      let back = laid.stands.rest L at mid (versions_code at event) (events_code mid events) (ap (λ j. at + j) (laid.sizes.versions event at)) has in
      let m = k + length (versions_entries at event) in
      let first = versions_regions event k at front works.0 many in
      let others = events_regions events m mid back works.1 (omega (arith, many)) in
      let all = flat_map (λ (entries : List ℕ). entries) (events_entries mid events) in
      ends_as k at (mid + events_size events) (at + (versions_size event + events_size events)) (versions_entries at event ++ all) (omega arith)
      (join_regions w k at mid (mid + events_size events) m (versions_entries at event) all first refl others)

-- ---- the program

tasks_entries_length : (bodies : List Body) (at : ℕ) → length (tasks_entries at bodies) ≡ length bodies
tasks_entries_length [] at = refl
tasks_entries_length (body ∷ bodies) at = ap suc (tasks_entries_length bodies (at + task_size body))

events_length : CodeIsLaidOut → (events : List (List Body)) (at : ℕ) → length (events_code at events) ≡ events_size events
events_length laid [] at = refl
events_length laid (event ∷ events) at =
    omega (arith, length-append (versions_code at event) (events_code (at + versions_size event) events), laid.sizes.versions event at, events_length laid events (at + versions_size event))

abbrev pub whole_of : Checked → Whole
whole_of p = record { code = code_of p; words = length p.words; posts = length p.tasks; tasks = length p.tasks }

pub tasks_counted : (p : Checked) → length (code_of p).tasks ≡ length p.tasks
unfolding code_of
tasks_counted p = tasks_entries_length (bodies_of p) 0 ∙ length-map p.tasks (tree_of p.blocks)

tasks_stand : CodeIsLaidOut → (p : Checked) → HasAt (code_of p).instrs 0 (tasks_code 0 0 (bodies_of p))
unfolding code_of
tasks_stand laid p = laid.stands.all (tasks_code 0 0 (bodies_of p)) [] (events_code (tasks_size (bodies_of p)) (versions_of p))

events_stand : CodeIsLaidOut → (p : Checked) → HasAt (code_of p).instrs (tasks_size (bodies_of p)) (events_code (tasks_size (bodies_of p)) (versions_of p))
unfolding code_of
events_stand laid p =
    let size = tasks_size (bodies_of p) in
    let tasks = tasks_code 0 0 (bodies_of p) in
    let events = events_code size (versions_of p) in
    subst (λ l. HasAt (tasks ++ l) size events) (append-nil events) (subst (λ n. HasAt (tasks ++ (events ++ [])) n events) (laid.sizes.tasks (bodies_of p) 0 0) (laid.stands.all events tasks []))

code_length : CodeIsLaidOut → (p : Checked) → tasks_size (bodies_of p) + events_size (versions_of p) ≡ length (code_of p).instrs
unfolding code_of
code_length laid p =
    let size = tasks_size (bodies_of p) in
    omega (arith, length-append (tasks_code 0 0 (bodies_of p)) (events_code size (versions_of p)), laid.sizes.tasks (bodies_of p) 0 0, events_length laid (versions_of p) size)

entries_are : (p : Checked) → tasks_entries 0 (bodies_of p) ++ flat_map (λ (entries : List ℕ). entries) (events_entries (tasks_size (bodies_of p)) (versions_of p)) ≡ all_entries (code_of p)
unfolding code_of
entries_are p = refl

pub program_regions : CodeIsLaidOut → (p : Checked) → IsChecked p → Regions (whole_of p) 0 0 (all_entries (code_of p)) (length (code_of p).instrs)
program_regions laid p checked =
    let w = whole_of p in
    let size = tasks_size (bodies_of p) in
    let many = length-map p.tasks (tree_of p.blocks) in
    let tasks = tasks_regions w laid (bodies_of p) 0 0 (tasks_stand laid p) checked.tasks_work (omega (arith, many)) in
    let m = length p.tasks in
    let events = events_regions w laid (versions_of p) m size (events_stand laid p) checked.events_work (omega arith) in
    let entries = flat_map (λ (entries : List ℕ). entries) (events_entries size (versions_of p)) in
    let end = size + events_size (versions_of p) in
    let counted : 0 + length (tasks_entries 0 (bodies_of p)) ≡ m = omega (arith, tasks_entries_length (bodies_of p) 0, many) in
    let first = ends_as w laid 0 0 (0 + size) size (tasks_entries 0 (bodies_of p)) (omega arith) tasks in
    let all = join_regions w 0 0 size end m (tasks_entries 0 (bodies_of p)) entries first counted events in
    subst (λ l. Regions w 0 0 l (length (code_of p).instrs)) (entries_are p) (ends_as w laid 0 0 end (length (code_of p).instrs) (tasks_entries 0 (bodies_of p) ++ entries) (code_length laid p) all)
