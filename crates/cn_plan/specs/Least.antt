-- The least harvest with which a device serves a program's events, none of them degraded.
use Rattle.std.specs.Prelude.{ℕ, Option}
use Rattle.cat_program.specs.Checked.{Checked}
use Rattle.nv_memory.specs.declared.device.Device.{Device}
use Rattle.cost_bounds.specs.BoundsValue.{BoundsValue}
use Rattle.demand_core.specs.Multiples.{IsTooLong}
use Rattle.feasibility.specs.declared.decide.Verdict.{Verdict}
use Rattle.degradation.specs.declared.chosen.Chosen.{Chosen}
use Rattle.degradation.specs.Choice.{Suits}
use Rattle.cn_plan.specs.declared.answer.Least.{Least}
use Rattle.cn_plan.specs.declared.answer.Least.TheVariants.{Found, Never}
use Rattle.cn_plan.specs.declared.answer.LeastFault.{LeastFault}
use Rattle.cn_plan.specs.declared.answer.LeastFault.TheVariants.{WindowTooLong, NoMemory}
use Rattle.cn_plan.specs.Harvest.{IsLeastHarvest, IsNoHarvest}
use Rattle.cn_plan.specs.Whole.{whole_loads, device_base, IsWholeWindow, IsWholeChoice}

-- the least harvest, with what is chosen at it
pub record IsFound (p : Checked) (b : BoundsValue) (device : Device) (lines q : ℕ) (chosen : Chosen) (below : Option Verdict) : Type 0 where
  pub window : ℕ
  pub is_window : IsWholeWindow p b device window
  pub least : IsLeastHarvest (device_base b device) (whole_loads p b) window q below
  pub is : IsWholeChoice p b device q lines chosen

-- no harvest is enough
pub record IsNever (p : Checked) (b : BoundsValue) (device : Device) (verdict : Verdict) : Type 0 where
  pub window : ℕ
  pub is_window : IsWholeWindow p b device window
  pub none : IsNoHarvest (device_base b device) (whole_loads p b) window verdict

abbrev pub IsLeast : Checked → BoundsValue → Device → ℕ → Least → Type 0
IsLeast p b device lines (Found q chosen below) = IsFound p b device lines q chosen below
IsLeast p b device lines (Never verdict) = IsNever p b device verdict

-- what was found has one version and one load of each event
abbrev pub SuitsLeast : Checked → Least → Type 0
SuitsLeast p (Found q chosen below) = Suits p chosen
SuitsLeast p (Never verdict) = Unit {0}

-- why there is no plan: the events and the harvest repeat too late, with this spacing the first in order
abbrev pub IsLeastFault : Checked → BoundsValue → Device → LeastFault → Type 0
IsLeastFault p b device (WindowTooLong spacing) = IsTooLong device.p (whole_loads p b) 1000000 spacing
IsLeastFault p b device NoMemory = Unit {0}
