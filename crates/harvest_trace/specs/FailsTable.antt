-- The failures that a table's text spells.
use Rattle.std.specs.Prelude.{ℕ, ℤ, ◌-◌, ◌==◌, nat_lt, if◌then◌else◌, get_or, codes, Bool, true, List, [], ◌∷◌, ◌++◌, length, Option, Some, None, Result, Ok, Err}
use Rattle.cn_base.specs.declared.TheConstants.{MOST_TICKS}
use Rattle.cn_tables.specs.FillText.{fill_of}
use Rattle.cn_tables.specs.Number.{number_of}
use Rattle.cn_tables.specs.Ranges.{within}
use Rattle.cn_tables.specs.Table.{Bad, Fields, Step, read_table}
use Rattle.cn_tables.specs.declared.fault.RowKind.{RowKind}
use Rattle.cn_tables.specs.declared.fault.RowKind.TheVariants as kind
use Rattle.harvest_trace.specs.declared.failures.Failure.{Failure}

abbrev pub fails_header : Fields
fails_header = codes "tick" ∷ codes "fill" ∷ []

abbrev pub with_fill : ℕ → Option (List ℕ) → Result Failure RowKind
with_fill tick None = Err kind.Fill
with_fill tick (Some fill) = Ok (record { tick = tick; fill = fill })

abbrev pub with_tick : List ℕ → Option ℕ → Result Failure RowKind
with_tick text None = Err kind.Range
with_tick text (Some tick) = with_fill tick (fill_of text)

abbrev pub with_number : List ℕ → Option ℤ → Result Failure RowKind
with_number text None = Err kind.Number
with_number text (Some z) = with_tick text (within 0 (MOST_TICKS - 1) z)

-- what a row says by itself
abbrev pub fail_row : Fields → Result Failure RowKind
fail_row fields = if length fields == 2 then with_number (get_or fields 1 []) (number_of (get_or fields 0 [])) else Err kind.Fields

-- the tick of the last failure
unfoldable pub last_tick : Option ℕ → List Failure → Option ℕ
last_tick last [] = last
last_tick last (f ∷ fs) = last_tick (Some f.tick) fs

abbrev pub is_after : Option ℕ → ℕ → Bool
is_after None tick = true
is_after (Some last) tick = nat_lt last tick

-- the row after those before it
abbrev pub with_row : List Failure → Result Failure RowKind → Result (List Failure) RowKind
with_row before (Ok row) = if is_after (last_tick None before) row.tick then Ok (before ++ row ∷ []) else Err kind.Order
with_row before (Err bad) = Err bad

-- the greatest number of rows
abbrev pub most_rows : ℕ
most_rows = 100000

abbrev pub fails_step : Step (List Failure)
fails_step number before fields = if nat_lt most_rows number then Err kind.Many else with_row before (fail_row fields)

-- the failures that a text spells, or its first fault
abbrev pub fails_of : List ℕ → Result (List Failure) Bad
fails_of bytes = read_table fails_header fails_step [] bytes
