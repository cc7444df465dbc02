-- The forecast of one row, by what a device's profile guarantees.
use Rattle.std.specs.Prelude.{◌≡◌, ℕ, List, [], ◌∷◌}
use Rattle.cat_program.specs.Checked.{Checked}
use Rattle.nv_memory.specs.declared.device.Device.{Device}
use Rattle.nv_memory.specs.declared.layout.Layout.{Layout}
use Rattle.nv_memory.specs.Layout.{lines_of}
use Rattle.event_arrivals.specs.Arrivals.{Lists}
use Rattle.feasibility.specs.declared.choose.ChooseFault.{ChooseFault}
use Rattle.degradation.specs.declared.chosen.Chosen.{Chosen}
use Rattle.degradation.specs.Choice.{supply_of, IsChoice, IsNoChoice}
use Rattle.forecast_table.specs.declared.epoch.Epoch.{Epoch}
use Rattle.forecast_table.specs.Epochs.{IsForecast}
use Rattle.forecast_choice.specs.Rows.{row_of}
use Rattle.cn_scheduler.specs.declared.plan.Plan.{Plan}
use Rattle.cn_runtime.specs.Planned.{HasNoChoice, IsChosenFor, IsPlanFor}

abbrev pub steady_rows : Device → List Epoch
steady_rows device = row_of device ∷ []

-- a plan in which one choice holds throughout
abbrev pub IsSteadyPlan : Checked → Device → Lists → Chosen → Plan → Type 0
IsSteadyPlan program device arrivals chosen plan = IsPlanFor program device arrivals (steady_rows device) (chosen ∷ []) plan

-- It is a forecast, and what is chosen for it is the one choice by the device's own numbers.
pub record SteadyChoices : Type 0 where
  pub forecast : (device : Device) → IsForecast (steady_rows device)
  pub one : (program : Checked) (device : Device) (l : Layout) (found : List Chosen) → (is : IsChosenFor program device l (steady_rows device) found)
      → (chosen : Chosen) × (found ≡ chosen ∷ []) × IsChoice program is.bounds device (supply_of device) (lines_of l) chosen

-- Where nothing is, the first row has no choice, and so the device has none by its own numbers.
abbrev pub SteadyRefusals : Type 0
SteadyRefusals =
    (program : Checked) (device : Device) (number : ℕ) (fault : ChooseFault) → (is : HasNoChoice program device (steady_rows device) number fault) →
    (number ≡ 1) × IsNoChoice program is.bounds device (supply_of device) fault
