-- How many arrivals of an event come before a tick.
use Rattle.std.specs.Prelude.{◌≡◌, ℕ, ◌+◌, ◌-◌, ◌/◌, ◌≤◌, ◌<◌, nat_lt, Bool, false, map, count_by, Option, Some, None}
use Rattle.std.specs.List.{range_with_len}
use Rattle.event_arrivals.specs.Arrivals.{Lists, arrival_at}
use Rattle.event_arrivals.specs.Kept.{spacing_at}
use Rattle.event_arrivals.specs.declared.arrival.Arrival.{Arrival}

abbrev pub comes_before : ℕ → Option Arrival → Bool
comes_before t None = false
comes_before t (Some arrival) = nat_lt arrival.tick t

-- how many of an event's first n arrivals come before a tick
unfoldable pub came_among : Lists → ℕ → ℕ → ℕ → ℕ
came_among lists event t n = count_by (comes_before t) (map (λ k. arrival_at lists event k) (range_with_len 0 n))

-- How many arrivals of an event come before a tick. No two of them come in one tick, so none with a greater number does.
abbrev pub came : Lists → ℕ → ℕ → ℕ
came lists event t = came_among lists event t t

-- what these counts say of the arrivals
pub record AreCounted (lists : Lists) : Type 0 where
  -- more than k arrivals come before a tick exactly where arrival number k does
  pub counted : (event k t : ℕ) (arrival : Arrival) → arrival_at lists event k ≡ Some arrival → arrival.tick < t → k < came lists event t
  pub has_come : (event k t : ℕ) → k < came lists event t → (arrival : Arrival) × (arrival_at lists event k ≡ Some arrival) × (arrival.tick < t)
  pub later : (event a b : ℕ) → a ≤ b → came lists event a ≤ came lists event b
  -- in n ticks at most one comes for each spacing that is begun
  pub spaced : (event a n : ℕ) → 0 < spacing_at lists.timings event →
      came lists event (a + n) ≤ came lists event a + (n + spacing_at lists.timings event - 1) / spacing_at lists.timings event
