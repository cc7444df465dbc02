-- Which versions of a program's events a device can serve.
use Rattle.std.specs.Prelude.{ℕ, Bool, true, false, List, Option, Some, None, Result, MatchResult}
use Rattle.cat_program.specs.Checked.{Checked}
use Rattle.cost_bounds.specs.BoundsValue.{BoundsValue}
use Rattle.cost_bounds.specs.Greatest.{AreBounds}
use Rattle.degradation.specs.declared.chosen.Chosen.{Chosen}
use Rattle.degradation.specs.Placed.{IsLayoutOf}
use Rattle.feasibility.specs.declared.choose.ChooseFault.{ChooseFault}
use Rattle.feasibility.specs.declared.choose.ChooseFault.TheVariants as choose
use Rattle.forecast_choice.specs.declared.rows.RowFault.{RowFault}
use Rattle.forecast_choice.specs.declared.rows.RowFault.TheVariants as choose_rows
use Rattle.forecast_choice.specs.Rows.{AreChoices, IsFirstRefused}
use Rattle.forecast_table.specs.declared.epoch.Epoch.{Epoch}
use Rattle.cn_runtime.specs.declared.refused.PrepareFault.{PrepareFault}
use Rattle.cn_runtime.specs.declared.refused.PrepareFault.TheVariants as prepare
use Rattle.nv_memory.specs.declared.device.Device.{Device}
use Rattle.nv_memory.specs.declared.layout.Layout.{Layout}
use Rattle.nv_memory.specs.Layout.{lines_of}
use Rattle.catnap_top.specs.declared.fault.NoChoice.{NoChoice}
use Rattle.catnap_top.specs.declared.fault.NoChoice.TheVariants as none
use Rattle.catnap_top.specs.declared.fault.Fault.{Fault}
use Rattle.catnap_top.specs.declared.fault.Fault.TheVariants as fault
use Rattle.catnap_top.specs.declared.stop.Stop.{Stop}
use Rattle.catnap_top.specs.declared.stop.Stop.TheVariants as stop
use Rattle.catnap_top.specs.Look.{Look, By}

abbrev pub choose_fault : NoChoice → ChooseFault
choose_fault (none.Window spacing) = choose.WindowTooLong spacing
choose_fault (none.Rejected verdict) = choose.Rejected verdict

-- the first row of a forecast without a choice, counted from 1, and why it has none
abbrev pub NoRow : Type 0
NoRow = ℕ × NoChoice

-- the row is told where a file gave the forecast
abbrev pub told_row : Bool → ℕ → Option ℕ
told_row true number = Some number
told_row false number = None

abbrev pub row_fault : Bool → NoRow → Fault
row_fault given bad = fault.Choice (told_row given bad.0) bad.1

abbrev pub stop_of_rows : Bool → RowFault → Stop
stop_of_rows given (choose_rows.WindowTooLong number spacing) = stop.Refused (row_fault given (number, none.Window spacing))
stop_of_rows given (choose_rows.Rejected number verdict) = stop.Refused (row_fault given (number, none.Rejected verdict))
stop_of_rows given choose_rows.NoMemory = stop.NoMemory

abbrev pub stop_of_replay : Bool → PrepareFault → Stop
stop_of_replay given (prepare.WindowTooLong number spacing) = stop.Refused (row_fault given (number, none.Window spacing))
stop_of_replay given (prepare.Rejected number verdict) = stop.Refused (row_fault given (number, none.Rejected verdict))
stop_of_replay given prepare.NoMemory = stop.NoMemory

-- by the bounds of the program's code on the device: for each row of a forecast the versions of least degradation with what the row says
-- of the harvest, or the first row that has none
pub record Serves (p : Checked) (d : Device) (rows : List Epoch) (came : Result (List Chosen) NoRow) : Type 0 where
  pub l : Layout
  pub b : BoundsValue
  pub layout : IsLayoutOf p d l
  pub bounds : AreBounds p d (lines_of l) b
  pub choices : MatchResult came (λ found. AreChoices p b d (lines_of l) rows found) (λ bad. IsFirstRefused p b d (lines_of l) rows bad.0 (choose_fault bad.1))

abbrev pub versions_in : Checked → Device → Bool → List Epoch → Look (List Chosen)
versions_in p d given rows = By (row_fault given) (Serves p d rows)
