-- The row in force at a tick is one of the plan's.
use Rattle.std.proofs.Common.{◌≡◌, ℕ, zero, suc, ◌<◌, List, [], ◌∷◌, length, map, filter, refl, ap, subst, ◌∙◌, arith, true, All, Some, None}
use Rattle.std.specs.Prelude.{slice_get, slice_index}
use Rattle.std.specs.List.{AllByRecursion, last_or}
use Rattle.std.proofs.lemmas.Bool.Decides.{nat_tests}
use Rattle.std.proofs.lemmas.List.Elements.{recursion_from_All, All-from_recursion, All-filter}
use Rattle.demand_core.specs.declared.Load.{Load}
use Rattle.calm_stretch.specs.Loads.{IsAt}
use Rattle.cn_scheduler.specs.declared.plan.PlanRow.{PlanRow}
use Rattle.cn_scheduler.specs.InForce.{in_force, begins_by}

last_of : {X : Type 0} → (P : X → Type 0) (x : X) (xs : List X) → P x → AllByRecursion P xs → (y : X) × (last_or (Some x) xs ≡ Some y) × P y
last_of P x [] here all = (x, refl, here)
last_of P x (y ∷ xs) here all = last_of P y xs all.0 all.1

last_among : (P : PlanRow → Type 0) (rows : List PlanRow) (row : PlanRow) (t : ℕ) → AllByRecursion P rows → AllByRecursion P (filter (begins_by t) rows) →
    slice_get rows 0 ≡ Some row → row.from ≡ 0 → (r : PlanRow) × (in_force rows t ≡ Some r) × P r
last_among P [] row t all rest is from = absurd (cc)
last_among P (x ∷ rows) row t all rest is from =
    let same : x ≡ row = cc in
    let early : x.from ≡ 0 = ap (λ (r : PlanRow). r.from) same ∙ from in
    let begins : begins_by t x ≡ true = grind (arith, nat_tests) in
    let front : filter (begins_by t) (x ∷ rows) ≡ x ∷ filter (begins_by t) rows = rw begins refl in
    let all' : AllByRecursion P (x ∷ filter (begins_by t) rows) = subst (λ (rs : List PlanRow). AllByRecursion P rs) front rest in
    let last = last_of P x (filter (begins_by t) rows) all.0 all'.1 in
    (last.0, ap (λ (rs : List PlanRow). last_or None rs) front ∙ last.1, last.2)

pub row_in_force : (P : PlanRow → Type 0) (rows : List PlanRow) (row : PlanRow) → All P rows → slice_get rows 0 ≡ Some row → row.from ≡ 0 → (t : ℕ) →
    (r : PlanRow) × (in_force rows t ≡ Some r) × P r
row_in_force P rows row all is from t =
    last_among P rows row t (recursion_from_All P rows all) (recursion_from_All P (filter (begins_by t) rows) (All-filter (begins_by t) P rows all)) is from

-- ---- loads by their numbers

pub at_of : (loads : List Load) (e : ℕ) (x : Load) → slice_get loads e ≡ Some x → IsAt loads e x
at_of [] e x is = absurd (cc)
at_of (y ∷ loads) zero x is = cc
at_of (y ∷ loads) (suc e) x is = at_of loads e x is

pub get_of : (loads : List Load) (e : ℕ) (x : Load) → IsAt loads e x → slice_get loads e ≡ Some x
get_of [] e x at = absurd at
get_of (y ∷ loads) zero x at = ap (λ (z : Load). Some z) at
get_of (y ∷ loads) (suc e) x at = get_of loads e x at

pub at_below : (loads : List Load) (e : ℕ) (x : Load) → IsAt loads e x → e < length loads
at_below [] e x at = absurd at
at_below (y ∷ loads) zero x at = omega arith
at_below (y ∷ loads) (suc e) x at = let rest = at_below loads e x at in omega arith

pub at_some : (loads : List Load) (e : ℕ) → e < length loads → (x : Load) × IsAt loads e x
at_some [] e less = absurd (omega arith)
at_some (y ∷ loads) zero less = (y, refl)
at_some (y ∷ loads) (suc e) less = at_some loads e (omega arith)

pub all_of : (P : Load → Type 0) (loads : List Load) → ((e : ℕ) (x : Load) → IsAt loads e x → P x) → All P loads
all_of P loads each = All-from_recursion P loads (go loads each)
  where
    go : (loads : List Load) → ((e : ℕ) (x : Load) → IsAt loads e x → P x) → AllByRecursion P loads
    go [] each = tt
    go (y ∷ loads) each = (each 0 y refl, go loads (λ e x at. each (suc e) x at))

pub index_of_map : {X : Type 0} → (f : X → ℕ) (xs : List X) (e : ℕ) (x : X) → slice_get xs e ≡ Some x → slice_index (map f xs) e ≡ f x
index_of_map f [] e x is = absurd (cc)
index_of_map f (y ∷ xs) zero x is = let same : y ≡ x = cc in ap f same
index_of_map f (y ∷ xs) (suc e) x is = index_of_map f xs e x is
