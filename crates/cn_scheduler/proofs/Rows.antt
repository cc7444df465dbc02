-- The row in force, as rows are looked at one after the other.
use Rattle.std.proofs.Common.{◌≡◌, ℕ, ◌+◌, ◌<◌, ◌≤◌, true, false, Bool, List, [], ◌∷◌, ◌++◌, length, take, get_or, Option, Some, None, refl, sym, ap, ◌∙◌, subst, arith, zero, suc, ap₂, inl, inr}
use Rattle.std.specs.Prelude.{nat_le, filter, slice_get, if◌then◌else◌}
use Rattle.std.specs.List.{last_or}
use Rattle.std.proofs.lemmas.List.{take_more}
use Rattle.std.proofs.lemmas.Bool.Decides.{nat_tests}
use Rattle.std.proofs.lemmas.Option.{slice_get_read}
use Rattle.std.proofs.lemmas.Bool.{cases_lt}
use Rattle.std.proofs.lemmas.List.Elements.{filter-append}
use Rattle.cn_scheduler.specs.declared.plan.PlanRow.{PlanRow}
use Rattle.cn_scheduler.specs.InForce.{begins_by, in_force}

last_behind : (xs : List PlanRow) (o : Option PlanRow) (row : PlanRow) → last_or o (xs ++ row ∷ []) ≡ Some row
last_behind [] o row = refl
last_behind (x ∷ xs) o row = last_behind xs (Some x) row

last_none : (xs : List PlanRow) (o : Option PlanRow) → last_or o (xs ++ []) ≡ last_or o xs
last_none [] o = refl
last_none (x ∷ xs) o = last_none xs (Some x)

le_true : (a b : ℕ) → a ≤ b → nat_le a b ≡ true
le_true a b h = grind (arith, nat_tests)

le_false : (a b : ℕ) → b < a → nat_le a b ≡ false
le_false a b h = grind (arith, nat_tests)

module _ (xs : List PlanRow) (t : ℕ) (row : PlanRow) where
  abbrev kept : Bool → List PlanRow
  kept b = if b then row ∷ [] else []

  split : filter (begins_by t) (xs ++ row ∷ []) ≡ filter (begins_by t) xs ++ kept (nat_le row.from t)
  split = filter-append (begins_by t) xs (row ∷ [])

  pub row_in : nat_le row.from t ≡ true → in_force (xs ++ row ∷ []) t ≡ Some row
  row_in by = ap (last_or None) (split ∙ ap (λ b. filter (begins_by t) xs ++ kept b) by) ∙ last_behind (filter (begins_by t) xs) None row

  pub row_out : nat_le row.from t ≡ false → in_force (xs ++ row ∷ []) t ≡ in_force xs t
  row_out by = ap (last_or None) (split ∙ ap (λ b. filter (begins_by t) xs ++ kept b) by) ∙ last_none (filter (begins_by t) xs) None

-- one row more was looked at
module _ (rows items : List PlanRow) (i t : ℕ) (row : PlanRow) (same : items ≡ rows) (below : i < length items) (is : row ≡ get_or items i row) where
  pub seen_more : take (i + 1) rows ≡ take i rows ++ row ∷ []
  seen_more = subst (λ xs. take (i + 1) xs ≡ take i xs ++ row ∷ []) same (take_more items i row below ∙ ap (λ (x : PlanRow). take i items ++ x ∷ []) (sym is))

  pub found_row : slice_get rows i ≡ Some row
  found_row = subst (λ xs. slice_get xs i ≡ Some row) same (slice_get_read items (length items) i row refl below is)

  pub is_in : row.from ≤ t → (i < length rows) × (slice_get rows i ≡ in_force (take (i + 1) rows) t)
  is_in le = (subst (λ xs. i < length xs) same below, found_row ∙ sym (ap (λ xs. in_force xs t) seen_more ∙ row_in (take i rows) t row (le_true row.from t le)))

  pub is_out : t < row.from → in_force (take i rows) t ≡ in_force (take (i + 1) rows) t
  is_out lt = sym (ap (λ xs. in_force xs t) seen_more ∙ row_out (take i rows) t row (le_false row.from t lt))

-- ---- as time goes on

same_kept : (rows : List PlanRow) (t u : ℕ) → ((j : ℕ) (row : PlanRow) → slice_get rows j ≡ Some row → nat_le row.from t ≡ nat_le row.from u) → filter (begins_by t) rows ≡ filter (begins_by u) rows
same_kept [] t u same = refl
same_kept (row ∷ rows) t u same =
    ap₂ (λ (b : Bool) (xs : List PlanRow). if b then row ∷ xs else xs) (same zero row refl) (same_kept rows t u (λ j r is. same (suc j) r is))

-- no row begins between two ticks
pub row_stays : (rows : List PlanRow) (tick until t : ℕ) → ((j : ℕ) (row : PlanRow) → slice_get rows j ≡ Some row → tick < row.from → until ≤ row.from) → tick ≤ t → t < until → in_force rows t ≡ in_force rows tick
row_stays rows tick until t far later before = ap (last_or None) (same_kept rows t tick same)
  where
    same : (j : ℕ) (row : PlanRow) → slice_get rows j ≡ Some row → nat_le row.from t ≡ nat_le row.from tick
    same j row is = elim (cases_lt tick row.from) [
      | inl less ↦ le_false row.from t (omega (arith, far j row is less)) ∙ sym (le_false row.from tick less)
      | inr le ↦ le_true row.from t (omega (arith, le)) ∙ sym (le_true row.from tick le)
    ]
