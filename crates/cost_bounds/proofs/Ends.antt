-- Where the tasks' code of a program ends.
use Rattle.std.proofs.Common.{◌≡◌, ℕ, zero, suc, ◌+◌, ◌<◌, ◌≤◌, min, List, [], ◌∷◌, length, Option, Some, None, refl, sym, ap, ◌∙◌, arith, length-append}
use Rattle.std.specs.Prelude.{slice_get, unwrap_or, map}
use Rattle.cat_program.specs.declared.headers.Event.{Event}
use Rattle.cat_program.specs.Declares.{EachEventIs}
use Rattle.cat_program.specs.Body.{Body, tree_of}
use Rattle.cat_program.specs.Places.{tasks_size}
use Rattle.cat_program.specs.Checked.{Checked, IsChecked, bodies_of, versions_of}
use Rattle.cat_machine.specs.CodeValue.{CodeValue, versions_at}
use Rattle.cat_machine.specs.Code.{tasks_code, events_code, events_entries, code_of}
use Rattle.cat_machine.specs.LaidOut.{CodeIsLaidOut}
use Rattle.cost_bounds.specs.Pass.{tasks_in}
use Rattle.cost_bounds.proofs.Programs.{program_versions}

code_length : CodeIsLaidOut → (p : Checked) → length (code_of p).instrs ≡ tasks_size (bodies_of p) + length (events_code (tasks_size (bodies_of p)) (versions_of p))
unfolding code_of
code_length laid p = omega (arith, length-append (tasks_code 0 0 (bodies_of p)) (events_code (tasks_size (bodies_of p)) (versions_of p)), laid.sizes.tasks (bodies_of p) 0 0)

pub code_covers : CodeIsLaidOut → (p : Checked) → tasks_size (bodies_of p) ≤ length (code_of p).instrs
code_covers laid p = omega (arith, code_length laid p)

no_code : (events : List (List Body)) (at : ℕ) → length (events_entries at events) ≡ 0 → length (events_code at events) ≡ 0
no_code [] at e = refl
no_code (event ∷ events) at e = absurd (omega (arith, e))

pub end_without_events : CodeIsLaidOut → (p : Checked) → length (code_of p).versions ≡ 0 → length (code_of p).instrs ≡ tasks_size (bodies_of p)
end_without_events laid p e =
    let at = tasks_size (bodies_of p) in
    omega (arith, code_length laid p, no_code (versions_of p) at (ap length (sym (program_versions p)) ∙ e))

first_at : (events : List (List Body)) (at entry : ℕ) → slice_get (unwrap_or (slice_get (events_entries at events) 0) []) 0 ≡ Some entry → entry ≡ at
first_at [] at entry e = cc
first_at ([] ∷ events) at entry e = cc
first_at ((body ∷ bodies) ∷ events) at entry e = cc

pub end_at_first : CodeIsLaidOut → (p : Checked) (entry len : ℕ) → len ≡ length (code_of p).instrs → slice_get (versions_at (code_of p) 0) 0 ≡ Some entry → min len entry ≡ tasks_size (bodies_of p)
end_at_first laid p entry len e found =
    let at = tasks_size (bodies_of p) in
    let is = first_at (versions_of p) at entry (ap (λ l. slice_get (unwrap_or (slice_get l 0) []) 0) (sym (program_versions p)) ∙ found) in
    omega (arith, e, is, code_length laid p)

none_at : (g : ℕ → Body) (headers : List Event) (events : List (List ℕ)) (at : ℕ) → EachEventIs headers events → 0 < length events → slice_get (unwrap_or (slice_get (events_entries at (map (λ (event : List ℕ). map g event) events)) 0) []) 0 ≡ None → ⊥
none_at g headers [] at each some e = omega (arith, some)
none_at g [] (vs ∷ events) at each some e = each
none_at g (h ∷ headers) ([] ∷ events) at each some e = omega (arith, each.0.some)
none_at g (h ∷ headers) ((v ∷ vs) ∷ events) at each some e = cc

entries_length : (events : List (List Body)) (at : ℕ) → length (events_entries at events) ≡ length events
entries_length [] at = refl
entries_length (event ∷ events) at = ap suc (entries_length events _)

mapped_length : {A B : Type 0} (g : A → B) (xs : List A) → length (map g xs) ≡ length xs
mapped_length g [] = refl
mapped_length g (x ∷ xs) = ap suc (mapped_length g xs)

no_version : (versions : List (List ℕ)) → length versions ≡ 0 → slice_get (unwrap_or (slice_get versions 0) []) 0 ≡ None
no_version [] e = refl
no_version (entries ∷ versions) e = absurd (omega (arith, e))

-- an event has a version
pub end_somewhere : (p : Checked) → IsChecked p → 0 < length (code_of p).versions → slice_get (versions_at (code_of p) 0) 0 ≡ None → ⊥
end_somewhere p checked some none =
    let at = tasks_size (bodies_of p) in
    let long = ap length (program_versions p) ∙ entries_length (versions_of p) at ∙ mapped_length (λ (event : List ℕ). map (tree_of p.blocks) event) p.events in
    none_at (tree_of p.blocks) p.headers p.events at checked.declares (omega (arith, some, long)) (ap (λ l. slice_get (unwrap_or (slice_get l 0) []) 0) (sym (program_versions p)) ∙ none)

-- without events there is no first version
pub no_first_version : (code : CodeValue) → length code.versions ≡ 0 → slice_get (versions_at code 0) 0 ≡ None
no_first_version code e = no_version code.versions e

-- the tasks' code of a program ends where the first version begins
pub tasks_end : CodeIsLaidOut → (p : Checked) → IsChecked p → tasks_in (code_of p) ≡ tasks_size (bodies_of p)
tasks_end laid p checked = by_first (slice_get (versions_at (code_of p) 0) 0) refl
  where
    len : ℕ
    len = length (code_of p).instrs

    by_events : (n : ℕ) → length (code_of p).versions ≡ n → slice_get (versions_at (code_of p) 0) 0 ≡ None → len ≡ tasks_size (bodies_of p)
    by_events zero e none = end_without_events laid p e
    by_events (suc n) e none = absurd (end_somewhere p checked (omega (arith, e)) none)

    by_first : (o : Option ℕ) → slice_get (versions_at (code_of p) 0) 0 ≡ o → tasks_in (code_of p) ≡ tasks_size (bodies_of p)
    by_first None e = ap (λ q. min len (unwrap_or q len)) e ∙ omega (arith, by_events (length (code_of p).versions) refl e)
    by_first (Some entry) e = ap (λ q. min len (unwrap_or q len)) e ∙ end_at_first laid p entry len refl e
