-- One row of arrivals after those before it.
use Rattle.std.proofs.Common.{◌≡◌, ℕ, ◌≤◌, ◌<◌, nat_le, nat_lt, List, [], ◌∷◌, ◌++◌, Ok, Err, true, false, refl, ap, ◌∙◌, sym, arith}
use Rattle.std.proofs.lemmas.Bool.Decides.{nat_tests}
use Rattle.cat_program.specs.declared.headers.Event.{Event}
use Rattle.cn_tables.specs.Table.{Fields}
use Rattle.cn_tables.specs.declared.fault.RowKind.{RowKind}
use Rattle.cn_tables.specs.declared.fault.RowKind.TheVariants as kind
use Rattle.event_arrivals.specs.Rows.{arrival_row, arrivals_step, last_tick, with_row}
use Rattle.event_arrivals.specs.declared.row.ArrivalRow.{ArrivalRow}

last_tick-push : (last : ℕ) (rows : List ArrivalRow) (row : ArrivalRow) → last_tick last (rows ++ row ∷ []) ≡ row.tick
unfolding last_tick
last_tick-push last [] row = refl
last_tick-push last (r ∷ rows) row = last_tick-push r.tick rows row

pub last_tick-last : (rows : List ArrivalRow) (row : ArrivalRow) → row.tick ≡ last_tick 0 (rows ++ row ∷ [])
last_tick-last rows row = sym (last_tick-push 0 rows row)

few : (n : ℕ) → n ≤ 100000 → nat_lt 100000 n ≡ false
few n h = grind (arith, nat_tests)

many : (n : ℕ) → 100000 < n → nat_lt 100000 n ≡ true
many n h = grind (arith, nat_tests)

not_before : (a b : ℕ) → a ≤ b → nat_le a b ≡ true
not_before a b h = grind (arith, nat_tests)

before_it : (a b : ℕ) → b < a → nat_le a b ≡ false
before_it a b h = grind (arith, nat_tests)

pub step-many : (headers : List Event) (n : ℕ) (before : List ArrivalRow) (fields : Fields) → 100000 < n → arrivals_step headers n before fields ≡ Err kind.Many
step-many headers n before fields h = rw (many n h) refl

step-few : (headers : List Event) (n : ℕ) (before : List ArrivalRow) (fields : Fields) → n ≤ 100000 → arrivals_step headers n before fields ≡ with_row before (arrival_row headers fields)
step-few headers n before fields h = rw (few n h) refl

pub step-bad : (headers : List Event) (n : ℕ) (before : List ArrivalRow) (fields : Fields) (k : RowKind) → n ≤ 100000 → Err k ≡ arrival_row headers fields → arrivals_step headers n before fields ≡ Err k
step-bad headers n before fields k h e = step-few headers n before fields h ∙ ap (with_row before) (sym e)

pub step-order : (headers : List Event) (n : ℕ) (before : List ArrivalRow) (fields : Fields) (row : ArrivalRow) (last : ℕ) → n ≤ 100000 → Ok row ≡ arrival_row headers fields → last ≡ last_tick 0 before
    → row.tick < last → arrivals_step headers n before fields ≡ Err kind.Order
step-order headers n before fields row last h e l a = step-few headers n before fields h ∙ ap (with_row before) (sym e) ∙ rw (← l, before_it last row.tick a) refl

pub step-good : (headers : List Event) (n : ℕ) (before : List ArrivalRow) (fields : Fields) (row : ArrivalRow) (last : ℕ) → n ≤ 100000 → Ok row ≡ arrival_row headers fields → last ≡ last_tick 0 before
    → last ≤ row.tick → arrivals_step headers n before fields ≡ Ok (before ++ row ∷ [])
step-good headers n before fields row last h e l a = step-few headers n before fields h ∙ ap (with_row before) (sym e) ∙ rw (← l, not_before last row.tick a) refl
