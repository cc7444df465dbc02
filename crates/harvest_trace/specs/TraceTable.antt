-- The trace that a table's text spells.
use Rattle.std.specs.Prelude.{ℕ, ℤ, ◌+◌, ◌==◌, nat_le, if◌then◌else◌, get_or, codes, List, [], ◌∷◌, ◌++◌, length, Option, Some, Result, Ok, Err}
use Rattle.cn_base.specs.declared.TheConstants.{MOST_TICKS}
use Rattle.cn_tables.specs.Number.{number_of}
use Rattle.cn_tables.specs.Table.{Bad, Fields, Step, read_table}
use Rattle.cn_tables.specs.declared.fault.RowKind.{RowKind}
use Rattle.cn_tables.specs.declared.fault.RowKind.TheVariants as kind
use Rattle.cn_tables.specs.Ranges.{within, word}
use Rattle.harvest_trace.specs.Timeline.{life_of}
use Rattle.harvest_trace.specs.declared.row.TraceRow.{TraceRow}

abbrev pub trace_header : Fields
trace_header = codes "ticks" ∷ codes "harvest" ∷ codes "extra" ∷ codes "sample" ∷ []

abbrev pub from_ranges : Option ℕ → Option ℕ → Option ℕ → Option ℤ → Result TraceRow RowKind
from_ranges (Some ticks) (Some harvest) (Some extra) (Some sample) = Ok (record { ticks = ticks; harvest = harvest; extra = extra; sample = sample })
from_ranges _ _ _ _ = Err kind.Range

abbrev pub from_numbers : Option ℤ → Option ℤ → Option ℤ → Option ℤ → Result TraceRow RowKind
from_numbers (Some ticks) (Some harvest) (Some extra) (Some sample) =
    from_ranges (within 1 MOST_TICKS ticks) (within 0 1000000 harvest) (within 0 1000000 extra) (word sample)
from_numbers _ _ _ _ = Err kind.Number

-- what a row says by itself
abbrev pub trace_row : Fields → Result TraceRow RowKind
trace_row fields =
    if length fields == 4
    then from_numbers (number_of (get_or fields 0 [])) (number_of (get_or fields 1 [])) (number_of (get_or fields 2 [])) (number_of (get_or fields 3 []))
    else Err kind.Fields

-- the row after those before it
abbrev pub with_row : List TraceRow → Result TraceRow RowKind → Result (List TraceRow) RowKind
with_row before (Ok row) = if nat_le (life_of before + row.ticks) MOST_TICKS then Ok (before ++ row ∷ []) else Err kind.Total
with_row before (Err bad) = Err bad

abbrev pub trace_step : Step (List TraceRow)
trace_step number before fields = with_row before (trace_row fields)

-- the rows of the trace that a text spells, or its first fault
abbrev pub trace_of : List ℕ → Result (List TraceRow) Bad
trace_of bytes = read_table trace_header trace_step [] bytes
