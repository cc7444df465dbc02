-- How the arrivals of an event follow each other.
use Rattle.std.specs.Prelude.{◌≡◌, ℕ, ◌+◌, ◌*◌, ◌≤◌, ◌<◌, List, length, Some, All}
use Rattle.cat_program.specs.declared.headers.Timing.{Timing}
use Rattle.harvest_trace.specs.Timeline.{life_of}
use Rattle.event_arrivals.specs.Arrivals.{Lists, arrival_at}
use Rattle.event_arrivals.specs.Kept.{spacing_at}
use Rattle.event_arrivals.specs.Rows.{most_rows}
use Rattle.event_arrivals.specs.declared.arrival.Arrival.{Arrival}

-- the least time between two arrivals of an event is a tick at least
abbrev pub HaveSpacings : List Timing → Type 0
HaveSpacings timings = (event : ℕ) → event < length timings → 1 ≤ spacing_at timings event

-- Where an event has an arrival, it has all those of lower numbers, and each comes at least the event's spacing or period before
-- the one after it.
abbrev pub AreSpaced : Lists → Type 0
AreSpaced lists = (event j n : ℕ) (later : Arrival) → arrival_at lists event (j + n) ≡ Some later
    → (sooner : Arrival) × (arrival_at lists event j ≡ Some sooner) × (sooner.tick + n * spacing_at lists.timings event ≤ later.tick)

-- only events that there are have arrivals
abbrev pub AreKnown : Lists → Type 0
AreKnown lists = (event k : ℕ) (arrival : Arrival) → arrival_at lists event k ≡ Some arrival → event < length lists.timings

-- where an event has an arrival, it has all those of lower numbers, and none of them comes later
abbrev pub AreInOrder : Lists → Type 0
AreInOrder lists = (event j k : ℕ) (later : Arrival) → j ≤ k → arrival_at lists event k ≡ Some later
    → (sooner : Arrival) × (arrival_at lists event j ≡ Some sooner) × (sooner.tick ≤ later.tick)

-- no arrival comes at a tick below its number
abbrev pub AreRare : Lists → Type 0
AreRare lists = (event k : ℕ) (arrival : Arrival) → arrival_at lists event k ≡ Some arrival → k ≤ arrival.tick

-- each arrival comes before the trace's end
abbrev pub AreWithin : Lists → Type 0
AreWithin lists = (event k : ℕ) (arrival : Arrival) → arrival_at lists event k ≡ Some arrival → arrival.tick < life_of lists.trace

-- what holds of all arrivals
pub record AreSound (lists : Lists) : Type 0 where
  pub known : AreKnown lists
  pub apart : HaveSpacings lists.timings
  pub spaced : AreSpaced lists
  pub in_order : AreInOrder lists
  pub rare : AreRare lists
  pub within : AreWithin lists
  -- no more rows are dropped than a table may have
  pub few_dropped : length lists.dropped ≤ most_rows
  -- and each of them is an event's that there is
  pub known_dropped : All (λ row. row.event < length lists.timings) lists.dropped
