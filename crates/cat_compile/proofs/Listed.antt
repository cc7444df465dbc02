-- The lines of a listing, one after the other.
use Rattle.std.proofs.Common.{◌≡◌, ℕ, List, [], length, Some, sym, ap, ◌∙◌}
use Rattle.std.specs.Prelude.{slice_get, slice_index, unwrap_or, map}
use Rattle.std.proofs.lemmas.List.{length-map}
use Rattle.cat_program.specs.Body.{tree_of}
use Rattle.cat_program.specs.declared.headers.Event.{Event}
use Rattle.cat_program.specs.Places.{tasks_size}
use Rattle.cat_program.specs.Checked.{Checked, bodies_of, versions_of}
use Rattle.cat_machine.specs.CodeValue.{CodeValue, versions_at}
use Rattle.cat_machine.specs.Code.{code_of}
use Rattle.cat_compile.specs.Listing.{heads, name_of, task_line, version_line, task_header, version_header}
use Rattle.cat_compile.proofs.Regions.{tasks_entries_length, events_entries_length}

-- ---- the parts of the code

pub tasks_counted : (p : Checked) (code : CodeValue) → code ≡ code_of p → length code.tasks ≡ length p.tasks
unfolding code_of
tasks_counted p code e =
    ap (λ (c : CodeValue). length c.tasks) e ∙ tasks_entries_length (bodies_of p) 0 ∙ length-map p.tasks (tree_of p.blocks)

pub events_counted : (p : Checked) (code : CodeValue) → code ≡ code_of p → length code.versions ≡ length p.events
unfolding code_of
events_counted p code e =
    ap (λ (c : CodeValue). length c.versions) e ∙ events_entries_length (versions_of p) (tasks_size (bodies_of p)) ∙ length-map p.events (λ (event : List ℕ). map (tree_of p.blocks) event)

pub task_is : (p : Checked) (code : CodeValue) (pc t : ℕ) (entries name : List ℕ) → entries ≡ code.tasks → slice_get p.names t ≡ Some name → heads (slice_index entries t) pc (task_line name pc) ≡ task_header p code pc t
task_is p code pc t entries name e d =
    ap (λ l. heads (slice_index l t) pc (task_line name pc)) e
    ∙ ap (λ o. heads (slice_index code.tasks t) pc (task_line (unwrap_or o []) pc)) (sym d)

pub version_is : (p : Checked) (code : CodeValue) (pc e v : ℕ) (entries name : List ℕ) (event : Event) → entries ≡ versions_at code e → slice_get p.headers e ≡ Some event → name ≡ event.name → heads (slice_index entries v) pc (version_line name v pc) ≡ version_header p code pc e v
version_is p code pc e v entries name event d h named =
    ap (λ l. heads (slice_index l v) pc (version_line name v pc)) d
    ∙ ap (λ n. heads (slice_index (versions_at code e) v) pc (version_line n v pc)) named
    ∙ ap (λ o. heads (slice_index (versions_at code e) v) pc (version_line (name_of o) v pc)) (sym h)
