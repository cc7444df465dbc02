-- The rows of a forecast, and the one in force at a tick.
use Rattle.std.specs.Prelude.{◌≡◌, ℕ, ◌<◌, ◌≤◌, nat_le, get_or, length, filter, All, Bool, List, Option, None}
use Rattle.std.specs.List.{last_or}
use Rattle.cn_base.specs.declared.TheConstants.{MOST_TICKS}
use Rattle.forecast_table.specs.declared.epoch.Epoch.{Epoch}

abbrev pub begins_by : ℕ → Epoch → Bool
begins_by t row = nat_le row.tick t

-- the last row that begins at a tick or before it
abbrev pub in_force : List Epoch → ℕ → Option Epoch
in_force rows t = last_or None (filter (begins_by t) rows)

-- the numbers of a row lie in their ranges
pub record IsEpoch (row : Epoch) : Type 0 where
  pub tick : row.tick < MOST_TICKS
  pub some_p : 1 ≤ row.p
  pub most_p : row.p ≤ 1000000
  pub most_q : row.q ≤ 1000000

-- each row begins after those before it
abbrev pub IsRising : List Epoch → Type 0
IsRising rows = (i j : ℕ) (d : Epoch) → i < j → j < length rows → (get_or rows i d).tick < (get_or rows j d).tick

-- the greatest number of rows
abbrev pub most_epochs : ℕ
most_epochs = 64

-- some row is in force at every tick, and the rows follow each other
pub record IsForecast (rows : List Epoch) : Type 0 where
  pub some : 0 < length rows
  pub first : (d : Epoch) → (get_or rows 0 d).tick ≡ 0
  pub rising : IsRising rows
  pub few : length rows ≤ most_epochs
  pub in_range : All IsEpoch rows
