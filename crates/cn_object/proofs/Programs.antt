-- The code of a program as an object.
use Rattle.std.proofs.Common.{◌≡◌, ℕ, ℤ, suc, ◌+◌, List, [], ◌∷◌, length, refl, sym, ◌∙◌, ap, subst, arith}
use Rattle.std.specs.Prelude.{map}
use Rattle.std.specs.List.{All}
use Rattle.std.proofs.lemmas.List.{length-map, length-append}
use Rattle.cat_program.specs.declared.headers.Event.{Event}
use Rattle.cat_program.specs.Declares.{EachEventIs}
use Rattle.cat_program.specs.Body.{Body, tree_of}
use Rattle.cat_program.specs.Places.{task_size, version_size, versions_size, tasks_size, events_size}
use Rattle.cat_program.specs.Checked.{Checked, IsChecked, bodies_of, versions_of}
use Rattle.cat_machine.specs.Code.{code_of, tasks_code, tasks_entries, versions_code, versions_entries, events_code, events_entries}
use Rattle.cat_machine.specs.CodeValue.{CodeValue}
use Rattle.cat_machine.specs.LaidOut.{CodeHasSizes}
use Rattle.cn_object.specs.declared.object.Object.{Object}
use Rattle.cn_object.specs.Spelling.{HasVersions, IsFileOf, IsInRange, IsSmall, program_object, spelling}
use Rattle.cn_object.proofs.Ranges.{all_none, all_more}

tasks_entries_length : (bodies : List Body) (at : ℕ) → length (tasks_entries at bodies) ≡ length bodies
tasks_entries_length [] at = refl
tasks_entries_length (body ∷ bodies) at = ap suc (tasks_entries_length bodies (at + task_size body))

versions_entries_length : (bodies : List Body) (at : ℕ) → length (versions_entries at bodies) ≡ length bodies
versions_entries_length [] at = refl
versions_entries_length (body ∷ bodies) at = ap suc (versions_entries_length bodies (at + version_size body))

pub tasks_counted : (p : Checked) (code : CodeValue) → code ≡ code_of p → length code.tasks ≡ length p.tasks
unfolding code_of
tasks_counted p code e = ap (λ (c : CodeValue). length c.tasks) e ∙ tasks_entries_length (bodies_of p) 0 ∙ length-map p.tasks (tree_of p.blocks)

each_has : (tree : ℕ → Body) (headers : List Event) (events : List (List ℕ)) (at : ℕ) → EachEventIs headers events → All HasVersions (events_entries at (map (λ (event : List ℕ). map tree event) events))
each_has tree [] [] at h = all_none HasVersions
each_has tree [] (vs ∷ rest) at h = absurd h
each_has tree (e ∷ es) [] at h = absurd h
each_has tree (e ∷ es) (vs ∷ rest) at h =
    let long = versions_entries_length (map tree vs) at in
    let same = length-map vs tree in
    all_more HasVersions _ _ (omega (arith, long, same, h.0.some), omega (arith, long, same, h.0.few)) (each_has tree es rest (at + versions_size (map tree vs)) h.1)

pub versions_had : (p : Checked) (code : CodeValue) → code ≡ code_of p → IsChecked p → All HasVersions code.versions
unfolding code_of
versions_had p code e checked = subst (λ (c : CodeValue). All HasVersions c.versions) (sym e) (each_has (tree_of p.blocks) p.headers p.events (tasks_size (bodies_of p)) checked.declares)

-- ---- small enough for a file

events_entries_length : (events : List (List Body)) (at : ℕ) → length (events_entries at events) ≡ length events
events_entries_length [] at = refl
events_entries_length (event ∷ events) at = ap suc (events_entries_length events (at + versions_size event))

events_counted : (p : Checked) (code : CodeValue) → code ≡ code_of p → length code.versions ≡ length p.events
unfolding code_of
events_counted p code e = ap (λ (c : CodeValue). length c.versions) e ∙ events_entries_length (versions_of p) (tasks_size (bodies_of p)) ∙ length-map p.events _

events_code_length : CodeHasSizes → (events : List (List Body)) (at : ℕ) → length (events_code at events) ≡ events_size events
events_code_length sizes [] at = refl
events_code_length sizes (event ∷ events) at =
    omega (arith, length-append (versions_code at event) (events_code (at + versions_size event) events), sizes.versions event at, events_code_length sizes events (at + versions_size event))

instrs_counted : CodeHasSizes → (p : Checked) (code : CodeValue) → code ≡ code_of p → length code.instrs ≡ tasks_size (bodies_of p) + events_size (versions_of p)
unfolding code_of
instrs_counted sizes p code e =
    ap (λ (c : CodeValue). length c.instrs) e
    ∙ omega (arith, length-append (tasks_code 0 0 (bodies_of p)) (events_code (tasks_size (bodies_of p)) (versions_of p)), sizes.tasks (bodies_of p) 0 0, events_code_length sizes (versions_of p) (tasks_size (bodies_of p)))

pub program_is_small : CodeHasSizes → (p : Checked) → IsChecked p → IsSmall (program_object p)
program_is_small sizes p checked = record {
  words = checked.few_words;
  tasks = omega (arith, tasks_counted p (code_of p) refl, checked.few_tasks);
  events = omega (arith, events_counted p (code_of p) refl, checked.few_events);
  versions = versions_had p (code_of p) refl checked;
  count = omega (arith, instrs_counted sizes p (code_of p) refl, checked.short);
  started = checked.started ∙ sym (tasks_counted p (code_of p) refl);
}

abbrev of : CodeValue → List ℤ → List ℕ → Object
of code words started = record { code = code; words = words; started = started }

pub program_filed : (p : Checked) (code : CodeValue) (words : List ℤ) (started : List ℕ) (bytes : List ℕ) → CodeHasSizes → IsChecked p → code ≡ code_of p → words ≡ p.words → started ≡ p.started
    → bytes ≡ spelling (of code words started) → IsInRange (of code words started) → IsFileOf (program_object p) bytes
program_filed p code words started bytes sizes checked e f g spelled range =
    let same : of code words started ≡ program_object p =
    ap (λ c. of c words started) e ∙ ap (λ l. of (code_of p) l started) f ∙ ap (λ l. of (code_of p) p.words l) g in
    record {
      small = program_is_small sizes p checked;
      in_range = subst IsInRange same range;
      spelled = sym (spelled ∙ ap spelling same);
    }
