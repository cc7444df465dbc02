-- The rows of a table of arrivals, or its first fault.
use Rattle.std.specs.Prelude.{ℕ, ℤ, ◌+◌, ◌-◌, ◌==◌, nat_eq, nat_le, nat_lt, if◌then◌else◌, get_or, codes, Bool, false, List, [], ◌∷◌, ◌++◌, length, All, ◌<◌, Option, Some, None, Result, Ok, Err}
use Rattle.std.specs.Cmp.Lexicographic.{pointwise}
use Rattle.cn_base.specs.declared.TheConstants.{MOST_TICKS}
use Rattle.cat_program.specs.declared.headers.Event.{Event}
use Rattle.cat_program.specs.declared.headers.Timing.{Timing}
use Rattle.cat_program.specs.declared.headers.Timing.TheVariants.{Every, Spacing}
use Rattle.cn_tables.specs.Number.{number_of}
use Rattle.cn_tables.specs.Ranges.{within, word}
use Rattle.cn_tables.specs.Table.{Bad, Fields, Step, read_table}
use Rattle.cn_tables.specs.declared.fault.RowKind.{RowKind}
use Rattle.cn_tables.specs.declared.fault.RowKind.TheVariants as kind
use Rattle.event_arrivals.specs.declared.row.ArrivalRow.{ArrivalRow}

abbrev pub arrivals_header : Fields
arrivals_header = codes "tick" ∷ codes "event" ∷ codes "payload" ∷ []

abbrev pub is_named : List ℕ → List ℕ → Timing → Bool
is_named name own (Every period offset) = false
is_named name own (Spacing least) = pointwise nat_eq own name

abbrev pub is_reactive_named : List ℕ → Event → Bool
is_reactive_named name e = is_named name e.name e.timing

-- the number of the reactive event with this name, the first one having number `number`
unfoldable pub reactive_named : List ℕ → ℕ → List Event → Option ℕ
reactive_named name number [] = None
reactive_named name number (e ∷ es) = if is_reactive_named name e then Some number else reactive_named name (number + 1) es

abbrev pub from_event : ℕ → ℤ → Option ℕ → Result ArrivalRow RowKind
from_event tick payload (Some event) = Ok (record { tick = tick; event = event; payload = payload })
from_event tick payload None = Err kind.Name

abbrev pub from_ranges : List Event → List ℕ → Option ℕ → Option ℤ → Result ArrivalRow RowKind
from_ranges headers name (Some tick) (Some payload) = from_event tick payload (reactive_named name 0 headers)
from_ranges headers name _ _ = Err kind.Range

abbrev pub from_numbers : List Event → List ℕ → Option ℤ → Option ℤ → Result ArrivalRow RowKind
from_numbers headers name (Some tick) (Some payload) = from_ranges headers name (within 0 (MOST_TICKS - 1) tick) (word payload)
from_numbers headers name _ _ = Err kind.Number

-- what a row says by itself
abbrev pub arrival_row : List Event → Fields → Result ArrivalRow RowKind
arrival_row headers fields =
    if length fields == 3
    then from_numbers headers (get_or fields 1 []) (number_of (get_or fields 0 [])) (number_of (get_or fields 2 []))
    else Err kind.Fields

-- the tick of the last row, or 0
unfoldable pub last_tick : ℕ → List ArrivalRow → ℕ
last_tick last [] = last
last_tick last (row ∷ rows) = last_tick row.tick rows

-- the row after those before it
abbrev pub with_row : List ArrivalRow → Result ArrivalRow RowKind → Result (List ArrivalRow) RowKind
with_row before (Ok row) = if nat_le (last_tick 0 before) row.tick then Ok (before ++ row ∷ []) else Err kind.Order
with_row before (Err bad) = Err bad

-- each row is of one of so many events
abbrev pub AreRowsOf : ℕ → List ArrivalRow → Type 0
AreRowsOf events rows = All (λ row. row.event < events) rows

-- the greatest number of rows
abbrev pub most_rows : ℕ
most_rows = 100000

abbrev pub arrivals_step : List Event → Step (List ArrivalRow)
arrivals_step headers number before fields = if nat_lt most_rows number then Err kind.Many else with_row before (arrival_row headers fields)

-- the rows that a text spells, or its first fault
abbrev pub rows_of : List Event → List ℕ → Result (List ArrivalRow) Bad
rows_of headers bytes = read_table arrivals_header (arrivals_step headers) [] bytes
