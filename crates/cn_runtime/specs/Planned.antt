-- What is prepared for a replay.
use Rattle.std.specs.Prelude.{◌≡◌, ℕ, List, All, length, map}
use Rattle.std.specs.List.{zip}
use Rattle.cat_program.specs.declared.headers.Event.{Event}
use Rattle.cat_program.specs.Checked.{Checked, IsChecked}
use Rattle.cat_machine.specs.Code.{code_of}
use Rattle.nv_memory.specs.declared.device.Device.{Device}
use Rattle.nv_memory.specs.declared.layout.Layout.{Layout}
use Rattle.nv_memory.specs.Layout.{lines_of}
use Rattle.event_arrivals.specs.Arrivals.{Lists}
use Rattle.event_arrivals.specs.Spaced.{AreSpaced}
use Rattle.cost_bounds.specs.BoundsValue.{BoundsValue}
use Rattle.cost_bounds.specs.Greatest.{AreBounds}
use Rattle.feasibility.specs.declared.choose.ChooseFault.{ChooseFault}
use Rattle.feasibility.specs.declared.choose.ChooseFault.TheVariants as choose
use Rattle.degradation.specs.declared.chosen.Chosen.{Chosen}
use Rattle.degradation.specs.Choice.{Suits}
use Rattle.degradation.specs.Placed.{IsLayoutOf}
use Rattle.forecast_table.specs.declared.epoch.Epoch.{Epoch}
use Rattle.forecast_table.specs.Epochs.{IsForecast}
use Rattle.forecast_choice.specs.declared.rows.RowFault.{RowFault}
use Rattle.forecast_choice.specs.declared.rows.RowFault.TheVariants as row
use Rattle.forecast_choice.specs.Rows.{AreChoices, IsFirstRefused}
use Rattle.cn_scheduler.specs.declared.plan.Plan.{Plan}
use Rattle.cn_scheduler.specs.declared.plan.PlanRow.{PlanRow}
use Rattle.cn_scheduler.specs.EnginePoint.{IsFirst}
use Rattle.cn_runtime.specs.declared.prepared.Prepared.{Prepared}
use Rattle.cn_runtime.specs.declared.refused.PrepareFault.{PrepareFault}
use Rattle.cn_runtime.specs.declared.refused.PrepareFault.TheVariants.{WindowTooLong, Rejected, NoMemory}
use Rattle.lawful_timeline.specs.Working.{IsSetUp}

-- the deadline of each event
abbrev pub deadlines_in : List Event → List ℕ
deadlines_in headers = map (λ header. header.deadline) headers

-- what was chosen for a row of a forecast, in force from its tick on
abbrev pub plan_row : Epoch → Chosen → PlanRow
plan_row epoch chosen = record { from = epoch.tick; versions = chosen.versions; loads = chosen.loads; numbers = chosen.numbers }

-- a row for each row of a forecast, with what was chosen for it
abbrev pub plan_rows : List Epoch → List Chosen → List PlanRow
plan_rows forecast chosen = map (λ both. plan_row both.0 both.1) (zip forecast chosen)

-- the plan of a program on a device, with its arrivals and a choice of versions for each row of a forecast
pub record IsPlanFor (program : Checked) (device : Device) (arrivals : Lists) (forecast : List Epoch) (chosen : List Chosen) (plan : Plan) : Type 0 where
  pub code_is : plan.code ≡ code_of program
  pub rows_are : plan.rows ≡ plan_rows forecast chosen
  pub wake_is : plan.wake_units ≡ device.wake.bound
  pub arrivals_are : plan.queue.arrivals ≡ arrivals
  pub deadlines_are : plan.queue.deadlines ≡ deadlines_in program.headers
  pub layout_is : IsLayoutOf program device plan.layout

-- the choices for a program's code on a device, one for each row of a forecast
pub record IsChosenFor (program : Checked) (device : Device) (l : Layout) (forecast : List Epoch) (chosen : List Chosen) : Type 0 where
  pub bounds : BoundsValue
  pub are_bounds : AreBounds program device (lines_of l) bounds
  pub choices : AreChoices program bounds device (lines_of l) forecast chosen
  pub suit : All (Suits program) chosen

-- the plan of a forecast's choices for a checked program is set up, where each event has arrivals that are spaced
abbrev pub PlansAreSetUp : Type 0
PlansAreSetUp =
    (program : Checked) (device : Device) (arrivals : Lists) (forecast : List Epoch) (l : Layout) (chosen : List Chosen) (plan : Plan) → IsChecked program
    → length arrivals.timings ≡ length program.events → AreSpaced arrivals → IsForecast forecast → IsChosenFor program device l forecast chosen
    → IsPlanFor program device arrivals forecast chosen plan → IsSetUp program plan

-- all of a replay before its first step
pub record IsPrepared (program : Checked) (device : Device) (arrivals : Lists) (forecast : List Epoch) (prepared : Prepared) : Type 0 where
  pub program_is : prepared.program ≡ program
  pub device_is : prepared.device ≡ device
  pub forecast_is : prepared.forecast ≡ forecast
  pub chosen : IsChosenFor program device prepared.plan.layout forecast prepared.chosen
  pub plan : IsPlanFor program device arrivals forecast prepared.chosen prepared.plan
  pub set_up : IsSetUp program prepared.plan
  pub first : IsFirst program prepared.plan.layout prepared.engine

-- the first row of a forecast, counted from 1, for which there is no choice for a program's code on a device, and why
pub record HasNoChoice (program : Checked) (device : Device) (forecast : List Epoch) (number : ℕ) (fault : ChooseFault) : Type 0 where
  pub layout : Layout
  pub is_layout : IsLayoutOf program device layout
  pub bounds : BoundsValue
  pub are_bounds : AreBounds program device (lines_of layout) bounds
  pub refused : IsFirstRefused program bounds device (lines_of layout) forecast number fault

abbrev pub fault_of : RowFault → PrepareFault
fault_of (row.WindowTooLong number spacing) = WindowTooLong number spacing
fault_of (row.Rejected number verdict) = Rejected number verdict
fault_of row.NoMemory = NoMemory

abbrev pub IsRefused : Checked → Device → List Epoch → PrepareFault → Type 0
IsRefused program device forecast (WindowTooLong number spacing) = HasNoChoice program device forecast number (choose.WindowTooLong spacing)
IsRefused program device forecast (Rejected number verdict) = HasNoChoice program device forecast number (choose.Rejected verdict)
IsRefused program device forecast NoMemory = Unit {0}
