-- A queue, and what is next in it.
use Rattle.std.specs.Prelude.{◌≡◌, ◌≤◌, ◌<◌, ℕ, ◌+◌, nat_le, Bool, false, List, length, Option, Some, None, slice_index, MatchOption}
use Rattle.harvest_trace.specs.Timeline.{life_of}
use Rattle.event_arrivals.specs.Arrivals.{Lists, arrival_at}
use Rattle.event_arrivals.specs.Next.{ComesFirst, IsNext, IsPending, IsToCome}
use Rattle.event_arrivals.specs.declared.arrival.Arrival.{Arrival}
use Rattle.event_queue.specs.declared.queue.Due.{Due}

-- the arrivals, and how many ticks each event has to be done
pub record QueueValue : Type 0 where
  pub arrivals : Lists
  pub deadlines : List ℕ

pub record IsQueue (q : QueueValue) : Type 0 where
  pub each : length q.deadlines ≡ length q.arrivals.timings
  pub few : (event : ℕ) → slice_index q.deadlines event ≤ 1000000

abbrev pub arrival_of : Due → Arrival
arrival_of due = record { tick = due.arrived; payload = due.payload }

-- the next arrival, with its deadline tick
pub record IsDue (q : QueueValue) (done : ℕ → ℕ) (now : ℕ) (due : Due) : Type 0 where
  pub next : IsNext q.arrivals q.deadlines done now due.event due.index (arrival_of due)
  pub deadline : due.deadline ≡ due.arrived + slice_index q.deadlines due.event

-- it is its event's first that is not done, and comes at no tick below its index, before the trace ends
pub record IsInBounds (q : QueueValue) (done : ℕ → ℕ) (due : Due) : Type 0 where
  pub known : due.event < length q.arrivals.timings
  pub lowest : due.index ≡ done due.event
  pub rare : due.index ≤ due.arrived
  pub within : due.arrived < life_of q.arrivals.trace

-- ---- among some events

-- an event's arrival of this index, which has come, and comes first of those from it on
pub record IsHead (q : QueueValue) (now event index : ℕ) (due : Due) : Type 0 where
  pub event_is : due.event ≡ event
  pub index_is : due.index ≡ index
  pub is_it : arrival_at q.arrivals event index ≡ Some (arrival_of due)
  pub come : due.arrived ≤ now
  pub deadline : due.deadline ≡ due.arrived + slice_index q.deadlines event
  pub first : (k : ℕ) (other : Arrival) → index ≤ k → arrival_at q.arrivals event k ≡ Some other → due.arrived ≤ other.tick

-- it, or none where no arrival from this index on has come
abbrev pub IsHeadOf : QueueValue → ℕ → ℕ → ℕ → Option Due → Type 0
IsHeadOf q now event index head =
    MatchOption head ((k : ℕ) (other : Arrival) → index ≤ k → arrival_at q.arrivals event k ≡ Some other → now < other.tick) (IsHead q now event index)

-- the next one of the events below a number
pub record IsDueBelow (q : QueueValue) (done : ℕ → ℕ) (now bound : ℕ) (due : Due) : Type 0 where
  pub below : due.event < bound
  pub pending : IsPending q.arrivals done now due.event due.index (arrival_of due)
  pub deadline : due.deadline ≡ due.arrived + slice_index q.deadlines due.event
  pub first : (event k : ℕ) (other : Arrival) → event < bound → IsPending q.arrivals done now event k other
      → ComesFirst due.deadline due.event due.index (other.tick + slice_index q.deadlines event) event k

-- it, or none where nothing of these events is pending
abbrev pub IsFirst : QueueValue → (ℕ → ℕ) → ℕ → ℕ → Option Due → Type 0
IsFirst q done now bound best =
    MatchOption best ((event k : ℕ) (other : Arrival) → event < bound → ¬ (IsPending q.arrivals done now event k other)) (IsDueBelow q done now bound)

abbrev pub is_by : ℕ → Option Arrival → Bool
is_by now None = false
is_by now (Some arrival) = nat_le arrival.tick now

-- the event has an arrival of this index that has come
abbrev pub has_come_by : Lists → ℕ → ℕ → ℕ → Bool
has_come_by lists now event index = is_by now (arrival_at lists event index)

-- the least tick after `now` of an event's arrivals from one on, or none where there is no such arrival
abbrev pub IsTickOf : Lists → ℕ → ℕ → ℕ → Option ℕ → Type 0
IsTickOf lists now event from best =
    MatchOption best ((k : ℕ) (arrival : Arrival) → from ≤ k → arrival_at lists event k ≡ Some arrival → arrival.tick ≤ now)
    (λ tick. ((k : ℕ) × (arrival : Arrival) × (from ≤ k) × (arrival_at lists event k ≡ Some arrival) × (arrival.tick ≡ tick) × (now < tick))
    × ((k : ℕ) (arrival : Arrival) → from ≤ k → arrival_at lists event k ≡ Some arrival → now < arrival.tick → tick ≤ arrival.tick))

-- the same of the events below a number
pub record IsTickBelow (lists : Lists) (done : ℕ → ℕ) (now bound tick : ℕ) : Type 0 where
  pub comes : (event k : ℕ) × (arrival : Arrival) × IsToCome lists done now event k arrival × (arrival.tick ≡ tick)
  pub first : (event k : ℕ) (arrival : Arrival) → event < bound → IsToCome lists done now event k arrival → tick ≤ arrival.tick

abbrev pub IsFirstTick : Lists → (ℕ → ℕ) → ℕ → ℕ → Option ℕ → Type 0
IsFirstTick lists done now bound best =
    MatchOption best ((event k : ℕ) (arrival : Arrival) → event < bound → ¬ (IsToCome lists done now event k arrival)) (IsTickBelow lists done now bound)
