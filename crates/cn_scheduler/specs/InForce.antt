-- The row of a plan that is in force at a tick, and what it says.
use Rattle.std.specs.Prelude.{ℕ, ◌+◌, nat_le, Bool, List, Option, None, filter, slice_get, slice_index}
use Rattle.std.specs.Option.{option_map_or}
use Rattle.std.specs.List.{last_or}
use Rattle.demand_core.specs.declared.Load.{Load}
use Rattle.event_queue.specs.declared.queue.Due.{Due}
use Rattle.cn_scheduler.specs.declared.plan.PlanRow.{PlanRow}

abbrev pub begins_by : ℕ → PlanRow → Bool
begins_by t row = nat_le row.from t

-- the last row that begins at a tick or before it
abbrev pub in_force : List PlanRow → ℕ → Option PlanRow
in_force rows t = last_or None (filter (begins_by t) rows)

-- ---- at a tick

-- what an instruction of a task has to leave in store: the units that are kept back for jobs, and those of a checkpoint
abbrev pub floor_in : PlanRow → ℕ
floor_in row = row.numbers.reserve + row.numbers.checkpoint

abbrev pub floor_at : List PlanRow → ℕ → ℕ
floor_at rows t = option_map_or floor_in (in_force rows t) 0

-- the units at which a section begins
abbrev pub need_in : PlanRow → ℕ
need_in row = row.numbers.reserve + row.numbers.checkpoint + row.numbers.section

abbrev pub need_at : List PlanRow → ℕ → ℕ
need_at rows t = option_map_or need_in (in_force rows t) 0

-- the units at which the board wakes for the tasks
abbrev pub level_in : PlanRow → ℕ
level_in row = row.numbers.level

abbrev pub level_at : List PlanRow → ℕ → ℕ
level_at rows t = option_map_or level_in (in_force rows t) 0

-- ---- of an arrival, by the row in force when it came

abbrev pub version_in : ℕ → PlanRow → ℕ
version_in event row = slice_index row.versions event

abbrev pub version_of : List PlanRow → Due → ℕ
version_of rows due = option_map_or (version_in due.event) (in_force rows due.arrived) 0

abbrev pub load_units : Load → ℕ
load_units load = load.units

abbrev pub units_in : ℕ → PlanRow → ℕ
units_in event row = option_map_or load_units (slice_get row.loads event) 0

-- the most units that its job draws
abbrev pub units_of : List PlanRow → Due → ℕ
units_of rows due = option_map_or (units_in due.event) (in_force rows due.arrived) 0
