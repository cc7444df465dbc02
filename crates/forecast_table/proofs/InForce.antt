-- The row in force, as rows are looked at one after the other.
use Rattle.std.proofs.Common.{◌≡◌, ℕ, ◌+◌, ◌<◌, ◌≤◌, true, Bool, List, [], ◌∷◌, ◌++◌, length, take, get_or, Option, Some, None, refl, sym, ap, ◌∙◌, arith}
use Rattle.std.specs.Prelude.{nat_le, filter, slice_get, if◌then◌else◌}
use Rattle.std.specs.List.{last_or}
use Rattle.std.proofs.lemmas.List.{get_or_default, take_more}
use Rattle.std.proofs.lemmas.Bool.Decides.{nat_tests}
use Rattle.std.proofs.lemmas.Option.{slice_get_read}
use Rattle.std.proofs.lemmas.List.Elements.{filter-append}
use Rattle.forecast_table.specs.declared.epoch.Epoch.{Epoch}
use Rattle.forecast_table.specs.Epochs.{begins_by, in_force, IsForecast}

last_behind : (xs : List Epoch) (o : Option Epoch) (row : Epoch) → last_or o (xs ++ row ∷ []) ≡ Some row
last_behind [] o row = refl
last_behind (x ∷ xs) o row = last_behind xs (Some x) row

le_true : (a b : ℕ) → a ≤ b → nat_le a b ≡ true
le_true a b h = grind (arith, nat_tests)

-- one row more was looked at, and it has begun
module _ (rows : List Epoch) (i t : ℕ) (d : Epoch) (below : i < length rows) (begun : (get_or rows i d).tick ≤ t) where
  abbrev row : Epoch
  row = get_or rows i d

  abbrev kept : Bool → List Epoch
  kept b = if b then row ∷ [] else []

  found_row : slice_get rows i ≡ Some row
  found_row = slice_get_read rows (length rows) i row refl below (get_or_default rows i d row below)

  split : filter (begins_by t) (take i rows ++ row ∷ []) ≡ filter (begins_by t) (take i rows) ++ row ∷ []
  split = filter-append (begins_by t) (take i rows) (row ∷ []) ∙ ap (λ b. filter (begins_by t) (take i rows) ++ kept b) (le_true row.tick t begun)

  pub is_in : (i < length rows) × (slice_get rows i ≡ in_force (take (i + 1) rows) t)
  is_in = (below, found_row ∙ sym (ap (λ xs. in_force xs t) (take_more rows i d below) ∙ ap (last_or None) split ∙ last_behind (filter (begins_by t) (take i rows)) None row))

-- ---- some row is in force at every tick

last_some : (xs : List Epoch) (row : Epoch) → last_or (Some row) xs ≡ None → ⊥
last_some [] row e = cc
last_some (x ∷ xs) row e = last_some xs x e

pub not_none : (rows : List Epoch) (t : ℕ) → IsForecast rows → in_force rows t ≡ None → ⊥
not_none [] t is e = let some = is.some in omega arith
not_none (row ∷ rows) t is e = last_some (filter (begins_by t) rows) row (rw (le_true row.tick t (omega (arith, is.first row))) at e)
