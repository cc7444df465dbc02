-- A program's events with none degraded, on a device with any harvest.
use Rattle.std.specs.Prelude.{◌≡◌, ℕ, ◌≤◌, List}
use Rattle.cat_program.specs.Checked.{Checked}
use Rattle.nv_memory.specs.declared.device.Device.{Device}
use Rattle.cost_bounds.specs.BoundsValue.{BoundsValue}
use Rattle.demand_core.specs.declared.Load.{Load}
use Rattle.demand_core.specs.declared.Base.{Base}
use Rattle.demand_core.specs.Demand.{IsWindow}
use Rattle.feasibility.specs.Chosen.{vector_loads}
use Rattle.degradation.specs.declared.chosen.Chosen.{Chosen}
use Rattle.degradation.specs.declared.supply.Supply.{Supply}
use Rattle.degradation.specs.Choice.{base_of, supply_of, tables_of, IsChoice}

-- what each event asks for where no mention of the degrade order is taken up: in its version 0
abbrev pub whole_loads : Checked → BoundsValue → List Load
whole_loads p b = vector_loads (tables_of p.headers b.jobs) p.mentions 0

-- what the device gives, and what is needed beside the jobs; its harvest is the profile's own
abbrev pub device_base : BoundsValue → Device → Base
device_base b device = base_of b device (supply_of device)

-- this harvest in place of the profile's own
abbrev pub supply_with : Device → ℕ → Supply
supply_with device q = record { p = device.p; q = q }

-- the whole events and the harvest repeat after this many ticks, and that is soon enough
pub record IsWholeWindow (p : Checked) (b : BoundsValue) (device : Device) (window : ℕ) : Type 0 where
  pub is : IsWindow device.p (whole_loads p b) window
  pub short : window ≤ 1000000

-- the choice of versions with this harvest, in which no mention of the degrade order is taken up
pub record IsWholeChoice (p : Checked) (b : BoundsValue) (device : Device) (q lines : ℕ) (chosen : Chosen) : Type 0 where
  pub choice : IsChoice p b device (supply_with device q) lines chosen
  pub whole : choice.is.k ≡ 0
