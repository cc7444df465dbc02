-- Which arrivals wait at a tick, and which of them comes next. `done` tells how many arrivals of each event are done.
use Rattle.std.specs.Prelude.{ℕ, ◌+◌, ◌≤◌, ◌<◌, ◌≡◌, ◌⊎◌, List, Some, slice_index}
use Rattle.event_arrivals.specs.Arrivals.{Lists, arrival_at}
use Rattle.event_arrivals.specs.declared.arrival.Arrival.{Arrival}

-- an event's arrival that has come by a tick and is not done
pub record IsPending (lists : Lists) (done : ℕ → ℕ) (now event k : ℕ) (arrival : Arrival) : Type 0 where
  pub to_do : done event ≤ k
  pub is_it : arrival_at lists event k ≡ Some arrival
  pub come : arrival.tick ≤ now

-- one deadline tick, event and index come before others
abbrev pub ComesFirst : ℕ → ℕ → ℕ → ℕ → ℕ → ℕ → Type 0
ComesFirst due event k due' event' k' = (due < due') ⊎ ((due ≡ due') × ((event < event') ⊎ ((event ≡ event') × (k ≤ k'))))

-- the pending arrival with the least deadline tick, then the least event, then the least index
pub record IsNext (lists : Lists) (deadlines : List ℕ) (done : ℕ → ℕ) (now event k : ℕ) (arrival : Arrival) : Type 0 where
  pub pending : IsPending lists done now event k arrival
  pub first : (event' k' : ℕ) (other : Arrival) → IsPending lists done now event' k' other
      → ComesFirst (arrival.tick + slice_index deadlines event) event k (other.tick + slice_index deadlines event') event' k'

-- an event's arrival that is not done, and comes after a tick
pub record IsToCome (lists : Lists) (done : ℕ → ℕ) (now event k : ℕ) (arrival : Arrival) : Type 0 where
  pub to_do : done event ≤ k
  pub is_it : arrival_at lists event k ≡ Some arrival
  pub later : now < arrival.tick

-- the least tick after `now` at which an arrival comes that is not done
pub record IsNextTick (lists : Lists) (done : ℕ → ℕ) (now tick : ℕ) : Type 0 where
  pub comes : (event k : ℕ) × (arrival : Arrival) × IsToCome lists done now event k arrival × (arrival.tick ≡ tick)
  pub first : (event k : ℕ) (arrival : Arrival) → IsToCome lists done now event k arrival → tick ≤ arrival.tick

-- where two counts agree, what comes next by one and what comes next by the other are one arrival
abbrev pub AreOne : Lists → List ℕ → ℕ → Type 0
AreOne lists deadlines now = (done done' : ℕ → ℕ) (event k event' k' : ℕ) (arrival arrival' : Arrival) → ((e : ℕ) → done e ≡ done' e)
    → IsNext lists deadlines done now event k arrival → IsNext lists deadlines done' now event' k' arrival' → (event ≡ event') × (k ≡ k') × (arrival ≡ arrival')
