-- The arrivals of each event, and the rows that are dropped.
use Rattle.std.specs.Prelude.{ℕ, ◌+◌, ◌*◌, nat_eq, nat_lt, if◌then◌else◌, filter, map, List, [], ◌∷◌, Option, Some, None, Result, Ok, Err, slice_get, slice_index_or}
use Rattle.cat_program.specs.declared.headers.Event.{Event}
use Rattle.cat_program.specs.declared.headers.Timing.{Timing}
use Rattle.cat_program.specs.declared.headers.Timing.TheVariants.{Every, Spacing}
use Rattle.cn_tables.specs.Table.{Bad}
use Rattle.harvest_trace.specs.Timeline.{life_of, sample_at}
use Rattle.harvest_trace.specs.declared.row.TraceRow.{TraceRow}
use Rattle.event_arrivals.specs.Kept.{dropped_rows, kept_rows}
use Rattle.event_arrivals.specs.Rows.{rows_of}
use Rattle.event_arrivals.specs.declared.arrival.Arrival.{Arrival}
use Rattle.event_arrivals.specs.declared.arrival.Dropped.{Dropped}
use Rattle.event_arrivals.specs.declared.row.ArrivalRow.{ArrivalRow}

-- when each event comes by itself, the kept rows of each event, the dropped rows, and the trace
pub record Lists : Type 0 where
  pub timings : List Timing
  pub kept : List (List Arrival)
  pub dropped : List Dropped
  pub trace : List TraceRow

abbrev pub arrival_of : ArrivalRow → Arrival
arrival_of row = record { tick = row.tick; payload = row.payload }

abbrev pub dropped_of : ArrivalRow → Dropped
dropped_of row = record { tick = row.tick; event = row.event }

-- the rows before the trace's end
abbrev pub rows_before : ℕ → List ArrivalRow → List ArrivalRow
rows_before life rows = filter (λ row. nat_lt row.tick life) rows

-- an event's own rows
abbrev pub own_rows : ℕ → List ArrivalRow → List Arrival
own_rows event rows = map arrival_of (filter (λ row. nat_eq row.event event) rows)

-- the own rows of each event, the first one having number `event`
unfoldable pub each_own : ℕ → List Timing → List ArrivalRow → List (List Arrival)
each_own event [] rows = []
each_own event (t ∷ ts) rows = own_rows event rows ∷ each_own (event + 1) ts rows

abbrev pub timings_of : List Event → List Timing
timings_of headers = map (λ header. header.timing) headers

abbrev pub lists_of : List Timing → List TraceRow → List ArrivalRow → Lists
lists_of timings trace rows =
    record {
      timings = timings;
      kept = each_own 0 timings (kept_rows timings [] (rows_before (life_of trace) rows));
      dropped = map dropped_of (dropped_rows timings [] (rows_before (life_of trace) rows));
      trace = trace;
    }

abbrev pub lists_or_bad : List Timing → List TraceRow → Result (List ArrivalRow) Bad → Result Lists Bad
lists_or_bad timings trace (Ok rows) = Ok (lists_of timings trace rows)
lists_or_bad timings trace (Err bad) = Err bad

-- the arrivals of a program's events on a trace, as a text tells them, or its first fault
abbrev pub arrivals_of : List Event → List TraceRow → List ℕ → Result Lists Bad
arrivals_of headers trace bytes = lists_or_bad (timings_of headers) trace (rows_of headers bytes)

abbrev pub periodic : ℕ → List TraceRow → Option Arrival
periodic tick trace = if nat_lt tick (life_of trace) then Some (record { tick = tick; payload = sample_at trace tick }) else None

abbrev pub arrival_by : Option Timing → List Arrival → List TraceRow → ℕ → Option Arrival
arrival_by (Some (Every period offset)) kept trace k = periodic (offset + k * period) trace
arrival_by (Some (Spacing least)) kept trace k = slice_get kept k
arrival_by None kept trace k = None

-- an event's arrival number k: a periodic one comes with that tick's sample before the trace's end, a reactive one by its kept rows
abbrev pub arrival_at : Lists → ℕ → ℕ → Option Arrival
arrival_at lists event k = arrival_by (slice_get lists.timings event) (slice_index_or lists.kept event []) lists.trace k
