-- What a trace's rows say of each tick.
use Rattle.std.specs.Prelude.{ℕ, ℤ, pos, ◌+◌, ◌-◌, ◌≡◌, ◌≤◌, nat_lt, if◌then◌else◌, List, [], ◌∷◌, Option, Some, None, All, option_map, unwrap_or}
use Rattle.cn_base.specs.declared.TheConstants.{MOST_TICKS}
use Rattle.harvest_trace.specs.declared.row.TraceRow.{TraceRow}

-- the sum of the ticks
unfoldable pub life_of : List TraceRow → ℕ
life_of [] = 0
life_of (row ∷ rows) = row.ticks + life_of rows

-- the row that holds at a tick
unfoldable pub row_at : List TraceRow → ℕ → Option TraceRow
row_at [] tick = None
row_at (row ∷ rows) tick = if nat_lt tick row.ticks then Some row else row_at rows (tick - row.ticks)

-- the harvest of a tick, the extra cost of each operation that starts in it, and its sample; 0 from the life on
abbrev pub harvest_at : List TraceRow → ℕ → ℕ
harvest_at rows tick = unwrap_or (option_map (λ row. row.harvest) (row_at rows tick)) 0

abbrev pub extra_at : List TraceRow → ℕ → ℕ
extra_at rows tick = unwrap_or (option_map (λ row. row.extra) (row_at rows tick)) 0

abbrev pub sample_at : List TraceRow → ℕ → ℤ
sample_at rows tick = unwrap_or (option_map (λ row. row.sample) (row_at rows tick)) (pos 0)

-- the numbers of a row lie in their ranges
pub record IsInRange (row : TraceRow) : Type 0 where
  pub some_ticks : 1 ≤ row.ticks
  pub few_ticks : row.ticks ≤ MOST_TICKS
  pub harvest : row.harvest ≤ 1000000
  pub extra : row.extra ≤ 1000000

-- the tick after each row's last one, where the first row begins at `start`
unfoldable pub ends_from : ℕ → List TraceRow → List ℕ
ends_from start [] = []
ends_from start (row ∷ rows) = (start + row.ticks) ∷ ends_from (start + row.ticks) rows

-- what a trace keeps beside its rows
pub record IsTimeline (rows : List TraceRow) (ends : List ℕ) (life : ℕ) : Type 0 where
  pub ends_are : ends ≡ ends_from 0 rows
  pub life_is : life ≡ life_of rows
  pub bounded : life ≤ MOST_TICKS
  pub in_range : All IsInRange rows
