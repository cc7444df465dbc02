-- The length of a version's paths.
use Rattle.std.proofs.Common.{◌≡◌, ℕ, suc, ◌+◌, ◌≤◌, List, [], ◌∷◌, length, Some, None, sym, ap, ◌∙◌, arith, inl, inr}
use Rattle.std.specs.Prelude.{slice_get, unwrap_or}
use Rattle.std.specs.List.{flat_map}
use Rattle.std.proofs.lemmas.Bool.{cases_lt}
use Rattle.nv_memory.specs.declared.device.Class.TheVariants.{Basic}
use Rattle.cat_program.specs.Checked.{Checked, IsChecked, version_at}
use Rattle.cat_machine.specs.CodeValue.{CodeValue, EntryAt}
use Rattle.cat_machine.specs.Code.{code_of}
use Rattle.cat_machine.specs.Costs.{Costs, instr_cost, place_cost, path_cost, handler_most}
use Rattle.cat_machine.specs.LaidOut.{CodeIsLaidOut, one_each}
use Rattle.cost_bounds.specs.Paths.{HandlerFrom, Ends, LeadsOn, IsHandler}
use Rattle.cost_bounds.specs.Greatest.{IsGreatest, sum_over}
use Rattle.cn_object.specs.Regions.{version_entries}
use Rattle.compiled_objects.proofs.Lists.{slice_get_left, slice_get_right}

-- ---- the paths of a version

each_counts : (code : CodeValue) (pc : ℕ) (left path : List ℕ) → HandlerFrom code pc left path → length path ≡ path_cost (place_cost one_each code) path
each_counts code pc left path (Ends e) = omega (arith, ap (instr_cost one_each) e)
each_counts code pc left path (LeadsOn {next = n} {later = l} {path = more} x e leads rest) = omega (arith, ap (instr_cost one_each) e, each_counts code n l more rest)

-- an entry is one of some event's
entry_found : (lists : List (List ℕ)) (k entry : ℕ) → slice_get (flat_map (λ (entries : List ℕ). entries) lists) k ≡ Some entry → (e : ℕ) × (v : ℕ) × (slice_get (unwrap_or (slice_get lists e) []) v ≡ Some entry)
entry_found [] k entry h = absurd (let none : None ≡ Some entry = h in cc)
entry_found (xs ∷ lists) k entry h = elim (cases_lt k (length xs)) [
  | inl lt ↦ (0, k, sym (slice_get_left xs (flat_map (λ (entries : List ℕ). entries) lists) k lt) ∙ h)
  | inr le ↦ (let got = entry_found lists (slice_get_right xs (flat_map (λ (entries : List ℕ). entries) lists) k le).0 entry (sym (slice_get_right xs (flat_map (λ (entries : List ℕ). entries) lists) k le).1 ∙ h) in (suc got.0, got.1, got.2))
]

-- what the law of the paths of handlers says
abbrev pub HandlerPaths : Type 0
HandlerPaths = (u : Costs) (p : Checked) → IsChecked p → (event version entry : ℕ) → EntryAt (code_of p) event version entry → IsGreatest (IsHandler p event version) (sum_over u p) (handler_most u (version_at p event version) + u Basic)

path_short : CodeIsLaidOut → HandlerPaths → (p : Checked) → IsChecked p → (event version entry : ℕ) → EntryAt (code_of p) event version entry → (path : List ℕ) → HandlerFrom (code_of p) entry [] path → length path ≤ 1000000
path_short laid paths p checked event version entry at path h =
    let body = version_at p event version in
    let stands = laid.stands.version p checked event version entry at in
    let most = (paths one_each p checked event version entry at).upper path (record { entry = entry; enters = at; is = h }) in
    omega (arith, most, each_counts (code_of p) entry [] path h, laid.ones.handler body, stands.works.short)

pub versions_short : CodeIsLaidOut → HandlerPaths → (p : Checked) → IsChecked p → (k pc : ℕ) → slice_get (version_entries (code_of p)) k ≡ Some pc → (path : List ℕ) → HandlerFrom (code_of p) pc [] path → length path ≤ 1000000
versions_short laid paths p checked k pc h path is =
    let got = entry_found (code_of p).versions k pc h in
    path_short laid paths p checked got.0 got.1 pc got.2 path is
