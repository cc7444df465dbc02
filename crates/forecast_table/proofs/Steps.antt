-- One row of a forecast after those before it.
use Rattle.std.proofs.Common.{◌≡◌, ℕ, zero, suc, ◌+◌, ◌≤◌, ◌<◌, ◌⊎◌, ◌==◌, nat_lt, List, [], ◌∷◌, ◌++◌, length, get_or, Option, Some, None, option_map, Ok, Err, true, false, refl, ap, ◌∙◌, sym, arith, inl, inr, add-one, length-append}
use Rattle.std.specs.Prelude.{All}
use Rattle.std.specs.List.{last_or}
use Rattle.std.proofs.Math.ListN.{get_or-append}
use Rattle.std.proofs.Math.Seq.{get_or-append_seam}
use Rattle.std.proofs.lemmas.Bool.Decides.{nat_tests}
use Rattle.std.proofs.lemmas.List.Elements.{All-append}
use Rattle.cn_tables.specs.Table.{Fields}
use Rattle.cn_tables.specs.declared.fault.RowKind.{RowKind}
use Rattle.cn_tables.specs.declared.fault.RowKind.TheVariants as kind
use Rattle.forecast_table.specs.Epochs.{IsEpoch, IsForecast, IsRising}
use Rattle.forecast_table.specs.Table.{follows, forecast_row, forecast_step, last_tick, with_row, with_some}
use Rattle.forecast_table.specs.declared.epoch.Epoch.{Epoch}

-- ---- what a row does

few : (n : ℕ) → n ≤ 64 → nat_lt 64 n ≡ false
few n h = grind (arith, nat_tests)

many : (n : ℕ) → 64 < n → nat_lt 64 n ≡ true
many n h = grind (arith, nat_tests)

pub step-many : (n : ℕ) (before : List Epoch) (fields : Fields) → 64 < n → forecast_step n before fields ≡ Err kind.Many
step-many n before fields h = rw (many n h) refl

step-few : (n : ℕ) (before : List Epoch) (fields : Fields) → n ≤ 64 → forecast_step n before fields ≡ with_row before (forecast_row fields)
step-few n before fields h = rw (few n h) refl

pub step-bad : (n : ℕ) (before : List Epoch) (fields : Fields) (k : RowKind) → n ≤ 64 → Err k ≡ forecast_row fields → forecast_step n before fields ≡ Err k
step-bad n before fields k h e = step-few n before fields h ∙ ap (with_row before) (sym e)

pub step-order : (n : ℕ) (before : List Epoch) (fields : Fields) (row : Epoch) (last : Option ℕ) → n ≤ 64 → Ok row ≡ forecast_row fields → last ≡ last_tick before → follows last row.tick ≡ false
    → forecast_step n before fields ≡ Err kind.Order
step-order n before fields row last h e l a = step-few n before fields h ∙ ap (with_row before) (sym e) ∙ rw (← l, a) refl

pub step-good : (n : ℕ) (before : List Epoch) (fields : Fields) (row : Epoch) (last : Option ℕ) → n ≤ 64 → Ok row ≡ forecast_row fields → last ≡ last_tick before → follows last row.tick ≡ true
    → forecast_step n before fields ≡ Ok (before ++ row ∷ [])
step-good n before fields row last h e l a = step-few n before fields h ∙ ap (with_row before) (sym e) ∙ rw (← l, a) refl

-- ---- the rows so far

pub record AreRows (rows : List Epoch) : Type 0 where
  pub first : (d : Epoch) → 0 < length rows → (get_or rows 0 d).tick ≡ 0
  pub rising : IsRising rows
  pub few : length rows ≤ 64
  pub in_range : All IsEpoch rows

pub rows-none : AreRows []
rows-none = record {
  first = λ d some. absurd (omega arith);
  rising = λ i j d order within. absurd (omega arith);
  few = omega arith;
  in_range = λ k d h. absurd (omega arith);
}

last_behind : (xs : List Epoch) (o : Option Epoch) (row : Epoch) → last_or o (xs ++ row ∷ []) ≡ Some row
last_behind [] o row = refl
last_behind (x ∷ xs) o row = last_behind xs (Some x) row

pub last_tick-last : (rows : List Epoch) (row : Epoch) → Some row.tick ≡ last_tick (rows ++ row ∷ [])
last_tick-last rows row = ap (option_map (λ (x : Epoch). x.tick)) (sym (last_behind rows None row))

last-at : (rows : List Epoch) (o : Option Epoch) (i : ℕ) (d : Epoch) → i + 1 ≡ length rows → last_or o rows ≡ Some (get_or rows i d)
last-at [] o i d e = absurd (omega arith)
last-at (r ∷ []) o zero d e = refl
last-at (r ∷ s ∷ rows) o zero d e = absurd (omega arith)
last-at (r ∷ rows) o (suc i) d e = last-at rows (Some r) i d (omega arith)

less : (a b : ℕ) → nat_lt a b ≡ true → a < b
less a b h = grind (arith, nat_tests)

up_to : (i n : ℕ) → i ≤ n → (i ≡ n) ⊎ (i < n)
up_to i n h = grind arith

none : (a : ℕ) → (a == 0) ≡ true → a ≡ 0
none a h = grind (arith, nat_tests)

-- a tick after that of the last row comes after all
below_next : (rows : List Epoch) (tick i : ℕ) (d : Epoch) → IsRising rows → follows (last_tick rows) tick ≡ true → i < length rows → (get_or rows i d).tick < tick
below_next [] tick i d rising after within = absurd (omega arith)
below_next (r ∷ rows) tick i d rising after within =
    let last = last-at (r ∷ rows) None (length rows) d (add-one (length rows)) in
    let below : (get_or (r ∷ rows) (length rows) d).tick < tick = less _ _ (rw last at after) in
    elim (up_to i (length rows) (omega arith)) [ inl e ↦ rw e below | inr h ↦ (let more = rising i (length rows) d h (omega arith) in omega (arith, more, below)) ]

first_of_rows : (rows : List Epoch) (row : Epoch) (d : Epoch) → AreRows rows → follows (last_tick rows) row.tick ≡ true → (get_or (rows ++ row ∷ []) 0 d).tick ≡ 0
first_of_rows [] row d are after = none row.tick after
first_of_rows (r ∷ rows) row d are after = are.first d (omega arith)

alone : (row : Epoch) → IsEpoch row → All IsEpoch (row ∷ [])
alone row good zero d h = good
alone row good (suc k) d h = absurd (omega arith)

rising-push : (rows : List Epoch) (row : Epoch) → IsRising rows → follows (last_tick rows) row.tick ≡ true → IsRising (rows ++ row ∷ [])
rising-push rows row rising after i j d order within =
    let size : length (rows ++ row ∷ []) ≡ length rows + 1 = length-append rows (row ∷ []) in
    let early : i < length rows = omega (arith, size) in
    elim (up_to j (length rows) (omega (arith, size))) [
      | inl here ↦ rw (get_or-append rows (row ∷ []) d i early, here, get_or-append_seam rows row [] d) (below_next rows row.tick i d rising after early)
      | inr h ↦ rw (get_or-append rows (row ∷ []) d i early, get_or-append rows (row ∷ []) d j h) (rising i j d order h)
    ]

pub rows-push : (rows : List Epoch) (row : Epoch) (last : Option ℕ) → AreRows rows → IsEpoch row → length rows < 64 → last ≡ last_tick rows → follows last row.tick ≡ true → AreRows (rows ++ row ∷ [])
rows-push rows row last are good room e after =
    let next : follows (last_tick rows) row.tick ≡ true = rw e at after in
    record {
      first = λ d some. first_of_rows rows row d are next;
      rising = rising-push rows row are.rising next;
      few = omega (arith, length-append rows (row ∷ []));
      in_range = All-append IsEpoch rows (row ∷ []) are.in_range (alone row good);
    }

pub is_forecast : (rows : List Epoch) → AreRows rows → 0 < length rows → IsForecast rows
is_forecast rows are some = record { some = some; first = λ d. are.first d some; rising = are.rising; few = are.few; in_range = are.in_range }

-- ---- in the end

pub some-none : (rows : List Epoch) → length rows ≡ 0 → with_some (Ok rows) ≡ Err (1, kind.Few)
some-none [] e = refl
some-none (r ∷ rows) e = absurd (omega arith)

pub some-some : (rows : List Epoch) → 0 < length rows → with_some (Ok rows) ≡ Ok rows
some-some [] h = absurd (omega arith)
some-some (r ∷ rows) h = refl
