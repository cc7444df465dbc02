-- Which rows are kept. A row is kept where it is its event's first, or where its tick is at least the spacing after that event's
-- last kept row. Rows are in order, and `earlier` has those before, the last one first.
use Rattle.std.specs.Prelude.{ℕ, ◌+◌, nat_eq, nat_le, ◌&&◌, if◌then◌else◌, Bool, true, List, [], ◌∷◌, Option, Some, None, slice_get}
use Rattle.cat_program.specs.Declares.{spacing_of}
use Rattle.cat_program.specs.declared.headers.Timing.{Timing}
use Rattle.event_arrivals.specs.declared.row.ArrivalRow.{ArrivalRow}

abbrev pub spacing_in : Option Timing → ℕ
spacing_in (Some timing) = spacing_of timing
spacing_in None = 0

-- the least time between two arrivals of an event
abbrev pub spacing_at : List Timing → ℕ → ℕ
spacing_at timings event = spacing_in (slice_get timings event)

-- a tick that comes late enough after the last one, if there is one
abbrev pub is_apart : ℕ → Option ℕ → ℕ → Bool
is_apart least None tick = true
is_apart least (Some last) tick = nat_le (last + least) tick

-- the tick of the event's last kept row
unfoldable pub last_kept : List Timing → ℕ → List ArrivalRow → Option ℕ
last_kept timings event [] = None
last_kept timings event (row ∷ earlier) =
    if nat_eq row.event event && is_apart (spacing_at timings event) (last_kept timings event earlier) row.tick
    then Some row.tick
    else last_kept timings event earlier

abbrev pub is_kept : List Timing → List ArrivalRow → ArrivalRow → Bool
is_kept timings earlier row = is_apart (spacing_at timings row.event) (last_kept timings row.event earlier) row.tick

-- the rows that are kept, in order
unfoldable pub kept_rows : List Timing → List ArrivalRow → List ArrivalRow → List ArrivalRow
kept_rows timings earlier [] = []
kept_rows timings earlier (row ∷ rows) =
    if is_kept timings earlier row then row ∷ kept_rows timings (row ∷ earlier) rows else kept_rows timings (row ∷ earlier) rows

-- the rows that are dropped, in order
unfoldable pub dropped_rows : List Timing → List ArrivalRow → List ArrivalRow → List ArrivalRow
dropped_rows timings earlier [] = []
dropped_rows timings earlier (row ∷ rows) =
    if is_kept timings earlier row then dropped_rows timings (row ∷ earlier) rows else row ∷ dropped_rows timings (row ∷ earlier) rows
