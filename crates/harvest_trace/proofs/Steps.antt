-- One row of a trace after those before it.
use Rattle.std.proofs.Common.{◌≡◌, ℕ, ◌+◌, ◌≤◌, ◌<◌, nat_le, List, [], ◌∷◌, ◌++◌, Ok, Err, true, false, refl, arith}
use Rattle.std.proofs.lemmas.Bool.Decides.{nat_tests}
use Rattle.cn_tables.specs.declared.fault.RowKind.TheVariants as kind
use Rattle.cn_base.specs.declared.TheConstants.{MOST_TICKS}
use Rattle.harvest_trace.specs.Timeline.{life_of}
use Rattle.harvest_trace.specs.TraceTable.{with_row}
use Rattle.harvest_trace.specs.declared.row.TraceRow.{TraceRow}

fits : (n : ℕ) → n ≤ MOST_TICKS → nat_le n MOST_TICKS ≡ true
fits n h = grind (arith, nat_tests)

exceeds : (n : ℕ) → MOST_TICKS < n → nat_le n MOST_TICKS ≡ false
exceeds n h = grind (arith, nat_tests)

pub with_row-good : (before : List TraceRow) (row : TraceRow) → life_of before + row.ticks ≤ MOST_TICKS → with_row before (Ok row) ≡ Ok (before ++ row ∷ [])
with_row-good before row h = rw (fits (life_of before + row.ticks) h) refl

pub with_row-over : (before : List TraceRow) (row : TraceRow) → MOST_TICKS < life_of before + row.ticks → with_row before (Ok row) ≡ Err kind.Total
with_row-over before row h = rw (exceeds (life_of before + row.ticks) h) refl
