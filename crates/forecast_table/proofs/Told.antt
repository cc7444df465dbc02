-- The rows that a text spells are a forecast.
use Rattle.std.proofs.Common.{◌≡◌, ℕ, ℤ, zero, suc, ◌+◌, ◌-◌, ◌≤◌, ◌<◌, ◌==◌, nat_lt, List, [], ◌∷◌, ◌++◌, length, get_or, Option, Some, None, Result, Ok, Err, Bool, true, false, refl, arith, subst, length-append}
use Rattle.std.specs.Prelude.{nat_le, ◌&&◌, if◌then◌else◌, pos, negsuc}
use Rattle.std.proofs.lemmas.Bool.Decides.{nat_tests}
use Rattle.cn_base.specs.declared.TheConstants.{MOST_TICKS}
use Rattle.cn_tables.specs.Number.{number_of}
use Rattle.cn_tables.specs.Ranges.{within}
use Rattle.cn_tables.specs.Table.{Bad, Fields, after_row, read_rows, table_rows, then_rows}
use Rattle.cn_tables.specs.declared.fault.RowKind.{RowKind}
use Rattle.cn_tables.specs.declared.fault.RowKind.TheVariants as kind
use Rattle.forecast_table.specs.Epochs.{IsEpoch, IsForecast}
use Rattle.forecast_table.specs.Table.{follows, forecast_header, forecast_of, forecast_row, forecast_step, from_numbers, from_ranges, last_tick, with_row, with_some}
use Rattle.forecast_table.specs.declared.epoch.Epoch.{Epoch}
use Rattle.forecast_table.proofs.Steps.{AreRows, is_forecast, rows-none, rows-push}

-- ---- the numbers of a row

in_range : (least most m : ℕ) → (nat_le least m && nat_le m most) ≡ true → (least ≤ m) × (m ≤ most)
in_range least most m h = grind (arith, nat_tests)

within_is : (least most : ℕ) (z : ℤ) (n : ℕ) → within least most z ≡ Some n → (least ≤ n) × (n ≤ most)
within_is least most (pos m) n e = by_test (nat_le least m && nat_le m most) refl e
  where
    by_test : (b : Bool) → (nat_le least m && nat_le m most) ≡ b → (if b then Some m else None) ≡ Some n → (least ≤ n) × (n ≤ most)
    by_test true h e = let same : m ≡ n = cc in subst (λ x. (least ≤ x) × (x ≤ most)) same (in_range least most m h)
    by_test false h e = absurd (cc)
within_is least most (negsuc m) n e = absurd (cc)

ranges : (a b c : ℤ) (tick p q : Option ℕ) (row : Epoch) → within 0 (MOST_TICKS - 1) a ≡ tick → within 1 1000000 b ≡ p → within 0 1000000 c ≡ q → from_ranges tick p q ≡ Ok row → IsEpoch row
ranges a b c (Some tick) (Some p) (Some q) row t u v e =
    let same : record { tick = tick; p = p; q = q } ≡ row = cc in
    let first = within_is 0 (MOST_TICKS - 1) a tick t in
    let second = within_is 1 1000000 b p u in
    let third = within_is 0 1000000 c q v in
    subst IsEpoch same (record { tick = omega (arith, first.1); some_p = second.0; most_p = second.1; most_q = third.1 })
ranges a b c (Some tick) (Some p) None row t u v e = absurd (cc)
ranges a b c (Some tick) None q row t u v e = absurd (cc)
ranges a b c None p q row t u v e = absurd (cc)

numbers : (tick p q : Option ℤ) (row : Epoch) → from_numbers tick p q ≡ Ok row → IsEpoch row
numbers (Some a) (Some b) (Some c) row e = ranges a b c (within 0 (MOST_TICKS - 1) a) (within 1 1000000 b) (within 0 1000000 c) row refl refl refl e
numbers (Some a) (Some b) None row e = absurd (cc)
numbers (Some a) None q row e = absurd (cc)
numbers None p q row e = absurd (cc)

is_epoch : (fields : Fields) (row : Epoch) → forecast_row fields ≡ Ok row → IsEpoch row
is_epoch fields row e = by_count (length fields == 3) e
  where
    by_count : (b : Bool)
        → (if b then from_numbers (number_of (get_or fields 0 [])) (number_of (get_or fields 1 [])) (number_of (get_or fields 2 [])) else Err kind.Fields) ≡ Ok row → IsEpoch row
    by_count true e = numbers (number_of (get_or fields 0 [])) (number_of (get_or fields 1 [])) (number_of (get_or fields 2 [])) row e
    by_count false e = absurd (cc)

-- ---- the rows

room : (n m : ℕ) → nat_lt 64 n ≡ false → n ≡ m + 1 → m < 64
room n m h e = grind (arith, nat_tests)

-- one row more
record OneMore (before next : List Epoch) : Type 0 where
  are : AreRows next
  more : length next ≡ length before + 1

module _ (n : ℕ) (before next : List Epoch) (fields : Fields) (are : AreRows before) (count : n ≡ length before + 1) (few : nat_lt 64 n ≡ false) where
  by_follow : (row : Epoch) (b : Bool) → IsEpoch row → follows (last_tick before) row.tick ≡ b → (if b then Ok (before ++ row ∷ []) else Err kind.Order) ≡ Ok next → OneMore before next
  by_follow row true good after e =
      let same : before ++ row ∷ [] ≡ next = cc in
      subst (OneMore before) same (record {
        are = rows-push before row (last_tick before) are good (room n (length before) few count) refl after;
        more = length-append before (row ∷ []);
      })
  by_follow row false good after e = absurd (cc)

  by_row : (r : Result Epoch RowKind) → forecast_row fields ≡ r → with_row before r ≡ Ok next → OneMore before next
  by_row (Ok row) is e = by_follow row (follows (last_tick before) row.tick) (is_epoch fields row is) refl e
  by_row (Err bad) is e = absurd (cc)

step_more : (n : ℕ) (before next : List Epoch) (fields : Fields) → AreRows before → n ≡ length before + 1 → forecast_step n before fields ≡ Ok next → OneMore before next
step_more n before next fields are count e = by_many (nat_lt 64 n) refl e
  where
    by_many : (b : Bool) → nat_lt 64 n ≡ b → (if b then Err kind.Many else with_row before (forecast_row fields)) ≡ Ok next → OneMore before next
    by_many true h e = absurd (cc)
    by_many false h e = by_row n before next fields are count h (forecast_row fields) refl e

after_told : (left : List Fields) (n : ℕ) (before rows : List Epoch) (fields : Fields)
    → ((next : List Epoch) → AreRows next → n + 1 ≡ length next + 1 → read_rows forecast_step (n + 1) next left ≡ Ok rows → AreRows rows) → AreRows before → n ≡ length before + 1
    → (r : Result (List Epoch) RowKind) → forecast_step n before fields ≡ r → after_row (λ next. read_rows forecast_step (n + 1) next left) n r ≡ Ok rows → AreRows rows
after_told left n before rows fields more are count (Ok next) is e =
    let one = step_more n before next fields are count is in
    more next one.are (omega (arith, one.more, count)) e
after_told left n before rows fields more are count (Err bad) is e = absurd (cc)

rows_told : (left : List Fields) (n : ℕ) (before rows : List Epoch) → AreRows before → n ≡ length before + 1 → read_rows forecast_step n before left ≡ Ok rows → AreRows rows
unfolding read_rows
rows_told [] n before rows are count e = let same : before ≡ rows = cc in subst AreRows same are
rows_told (fields ∷ left) n before rows are count e =
    after_told left n before rows fields (λ next all more rest. rows_told left (n + 1) next rows all more rest) are count (forecast_step n before fields) refl e

-- ---- a text

some_told : (r : Result (List Epoch) Bad) (rows : List Epoch) → ((found : List Epoch) → r ≡ Ok found → AreRows found) → with_some r ≡ Ok rows → IsForecast rows
some_told (Ok []) rows are e = absurd (cc)
some_told (Ok (row ∷ more)) rows are e =
    let same : row ∷ more ≡ rows = cc in
    subst IsForecast same (is_forecast (row ∷ more) (are (row ∷ more) refl) (omega arith))
some_told (Err bad) rows are e = absurd (cc)

read_told : (r : Result (List Fields) Bad) (found : List Epoch) → then_rows (read_rows forecast_step 1 []) r ≡ Ok found → AreRows found
read_told (Ok left) found e = rows_told left 1 [] found rows-none refl e
read_told (Err bad) found e = absurd (cc)

pub told : (bytes : List ℕ) (rows : List Epoch) → forecast_of bytes ≡ Ok rows → IsForecast rows
told bytes rows e = some_told (then_rows (read_rows forecast_step 1 []) (table_rows forecast_header bytes)) rows (λ found is. read_told (table_rows forecast_header bytes) found is) e
