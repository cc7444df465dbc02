-- From when to when a row is in force.
use Rattle.std.proofs.Common.{◌≡◌, ℕ, zero, suc, ◌+◌, ◌<◌, ◌≤◌, ◌⊎◌, true, false, Bool, List, [], ◌∷◌, length, get_or, Option, Some, None, refl, sym, ap, subst, arith, inl, inr}
use Rattle.std.specs.Prelude.{nat_le, filter, slice_get, if◌then◌else◌}
use Rattle.std.specs.List.{last_or}
use Rattle.std.proofs.lemmas.Bool.Decides.{nat_tests}
use Rattle.forecast_table.specs.declared.epoch.Epoch.{Epoch}
use Rattle.forecast_table.specs.Epochs.{begins_by, in_force, IsForecast, IsRising}

le_true : (a b : ℕ) → a ≤ b → nat_le a b ≡ true
le_true a b h = grind (arith, nat_tests)

le_false : (a b : ℕ) → b < a → nat_le a b ≡ false
le_false a b h = grind (arith, nat_tests)

-- ---- places

one_at : (rows : List Epoch) (i : ℕ) → i < length rows → (row : Epoch) × (slice_get rows i ≡ Some row)
one_at [] i lt = absurd (omega arith)
one_at (row ∷ rows) zero lt = (row, refl)
one_at (row ∷ rows) (suc i) lt = one_at rows i (omega arith)

within : (rows : List Epoch) (row : Epoch) (i : ℕ) → slice_get rows i ≡ Some row → i < length rows
within [] row i e = absurd (cc)
within (r ∷ rows) row zero e = omega arith
within (r ∷ rows) row (suc i) e = let more = within rows row i e in omega (arith, more)

read : (rows : List Epoch) (row d : Epoch) (i : ℕ) → slice_get rows i ≡ Some row → get_or rows i d ≡ row
read [] row d i e = absurd (cc)
read (r ∷ rows) row d zero e = cc
read (r ∷ rows) row d (suc i) e = read rows row d i e

rises : (rows : List Epoch) (i j : ℕ) (x y : Epoch) → IsRising rows → i < j → slice_get rows i ≡ Some x → slice_get rows j ≡ Some y → x.tick < y.tick
rises rows i j x y rising lt ix jy =
    let order = rising i j x lt (within rows y j jy) in
    let first : (get_or rows i x).tick ≡ x.tick = ap (λ (row : Epoch). row.tick) (read rows x x i ix) in
    let second : (get_or rows j x).tick ≡ y.tick = ap (λ (row : Epoch). row.tick) (read rows y x j jy) in
    omega (arith, order, first, second)

-- ---- the last row that has begun

none_begun : (rows : List Epoch) (t : ℕ) → ((j : ℕ) (row : Epoch) → slice_get rows j ≡ Some row → t < row.tick) → filter (begins_by t) rows ≡ []
none_begun [] t later = refl
none_begun (r ∷ rows) t later = rw (le_false r.tick t (later 0 r refl)) (none_begun rows t (λ j row is. later (suc j) row is))

either : (b : Bool) (xs : List Epoch) (o : Option Epoch) (r row : Epoch) → ((before : Option Epoch) → last_or before xs ≡ Some row) → last_or o (if b then r ∷ xs else xs) ≡ Some row
either true xs o r row last = last (Some r)
either false xs o r row last = last o

last_begun : (rows : List Epoch) (o : Option Epoch) (i : ℕ) (row : Epoch) (t : ℕ) → slice_get rows i ≡ Some row → row.tick ≤ t
    → ((j : ℕ) (other : Epoch) → i < j → slice_get rows j ≡ Some other → t < other.tick) → last_or o (filter (begins_by t) rows) ≡ Some row
last_begun [] o i row t is begun later = absurd (cc)
last_begun (r ∷ rows) o zero row t is begun later =
    let same : r ≡ row = cc in
    let has : r.tick ≤ t = subst (λ (x : Epoch). x.tick ≤ t) (sym same) begun in
    rw (le_true r.tick t has, none_begun rows t (λ j other at. later (suc j) other (omega arith) at)) (ap Some same)
last_begun (r ∷ rows) o (suc i) row t is begun later =
    either (nat_le r.tick t) (filter (begins_by t) rows) o r row (λ before. last_begun rows before i row t is begun (λ j other lt at. later (suc j) other (omega arith) at))

pub until_next : (rows : List Epoch) (i : ℕ) (row : Epoch) (t : ℕ) → IsForecast rows → slice_get rows i ≡ Some row → row.tick ≤ t
    → ((next : Epoch) → slice_get rows (i + 1) ≡ Some next → t < next.tick) → in_force rows t ≡ Some row
until_next rows i row t are is begun next = last_begun rows None i row t is begun later
  where
    which : (j : ℕ) → i < j → (j ≡ i + 1) ⊎ (i + 1 < j)
    which j lt = grind arith

    later : (j : ℕ) (other : Epoch) → i < j → slice_get rows j ≡ Some other → t < other.tick
    later j other lt at = elim (which j lt) [
      | inl e ↦ next other (subst (λ (k : ℕ). slice_get rows k ≡ Some other) e at)
      | inr beyond ↦
          let one = one_at rows (i + 1) (omega (arith, within rows other j at)) in
          let order = rises rows (i + 1) j one.0 other are.rising beyond one.1 at in
          omega (arith, next one.0 one.1, order)
    ]
