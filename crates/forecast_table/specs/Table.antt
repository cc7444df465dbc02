-- The forecast that a table's text spells.
use Rattle.std.specs.Prelude.{ℕ, ℤ, ◌-◌, ◌==◌, nat_lt, if◌then◌else◌, get_or, codes, Bool, List, [], ◌∷◌, ◌++◌, length, Option, Some, None, option_map, Result, Ok, Err}
use Rattle.std.specs.List.{last_or}
use Rattle.cn_base.specs.declared.TheConstants.{MOST_TICKS}
use Rattle.cn_tables.specs.Number.{number_of}
use Rattle.cn_tables.specs.Ranges.{within}
use Rattle.cn_tables.specs.Table.{Bad, Fields, Step, read_table}
use Rattle.cn_tables.specs.declared.fault.RowKind.{RowKind}
use Rattle.cn_tables.specs.declared.fault.RowKind.TheVariants as kind
use Rattle.forecast_table.specs.declared.epoch.Epoch.{Epoch}
use Rattle.forecast_table.specs.Epochs.{most_epochs}

abbrev pub forecast_header : Fields
forecast_header = codes "tick" ∷ codes "p" ∷ codes "q" ∷ []

abbrev pub from_ranges : Option ℕ → Option ℕ → Option ℕ → Result Epoch RowKind
from_ranges (Some tick) (Some p) (Some q) = Ok (record { tick = tick; p = p; q = q })
from_ranges _ _ _ = Err kind.Range

abbrev pub from_numbers : Option ℤ → Option ℤ → Option ℤ → Result Epoch RowKind
from_numbers (Some tick) (Some p) (Some q) = from_ranges (within 0 (MOST_TICKS - 1) tick) (within 1 1000000 p) (within 0 1000000 q)
from_numbers _ _ _ = Err kind.Number

-- what a row says by itself
abbrev pub forecast_row : Fields → Result Epoch RowKind
forecast_row fields =
    if length fields == 3
    then from_numbers (number_of (get_or fields 0 [])) (number_of (get_or fields 1 [])) (number_of (get_or fields 2 []))
    else Err kind.Fields

-- the tick at which the last row begins
abbrev pub last_tick : List Epoch → Option ℕ
last_tick rows = option_map (λ row. row.tick) (last_or None rows)

-- the first row begins at tick 0, and each other one after the row before it
abbrev pub follows : Option ℕ → ℕ → Bool
follows None tick = tick == 0
follows (Some last) tick = nat_lt last tick

-- the row after those before it
abbrev pub with_row : List Epoch → Result Epoch RowKind → Result (List Epoch) RowKind
with_row before (Ok row) = if follows (last_tick before) row.tick then Ok (before ++ row ∷ []) else Err kind.Order
with_row before (Err bad) = Err bad

abbrev pub forecast_step : Step (List Epoch)
forecast_step number before fields = if nat_lt most_epochs number then Err kind.Many else with_row before (forecast_row fields)

-- a table has a first row
abbrev pub with_some : Result (List Epoch) Bad → Result (List Epoch) Bad
with_some (Ok []) = Err (1, kind.Few)
with_some (Ok (row ∷ rows)) = Ok (row ∷ rows)
with_some (Err bad) = Err bad

-- the rows of the forecast that a text spells, or its first fault
abbrev pub forecast_of : List ℕ → Result (List Epoch) Bad
forecast_of bytes = with_some (read_table forecast_header forecast_step [] bytes)
