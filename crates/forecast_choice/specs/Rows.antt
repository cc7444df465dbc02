-- The choice of versions for each row of a forecast, and the first row that has none.
use Rattle.std.specs.Prelude.{◌≡◌, ℕ, ◌+◌, ◌<◌, List, length, Some, slice_get}
use Rattle.cat_program.specs.Checked.{Checked}
use Rattle.cost_bounds.specs.BoundsValue.{BoundsValue}
use Rattle.nv_memory.specs.declared.device.Device.{Device}
use Rattle.feasibility.specs.declared.choose.ChooseFault.{ChooseFault}
use Rattle.feasibility.specs.declared.choose.ChooseFault.TheVariants as choose
use Rattle.degradation.specs.declared.chosen.Chosen.{Chosen}
use Rattle.degradation.specs.declared.supply.Supply.{Supply}
use Rattle.degradation.specs.Choice.{IsChoice, IsNoChoice}
use Rattle.forecast_table.specs.declared.epoch.Epoch.{Epoch}
use Rattle.forecast_choice.specs.declared.rows.RowFault.{RowFault}
use Rattle.forecast_choice.specs.declared.rows.RowFault.TheVariants.{WindowTooLong, Rejected, NoMemory}

-- what a row says of the harvest
abbrev pub supply_in : Epoch → Supply
supply_in row = record { p = row.p; q = row.q }

-- the row of the harvest that a device's profile guarantees
abbrev pub row_of : Device → Epoch
row_of device = record { tick = 0; p = device.p; q = device.q }

-- in order, one choice of versions for each row, with that row's supply
pub record AreChoices (p : Checked) (b : BoundsValue) (device : Device) (lines : ℕ) (rows : List Epoch) (found : List Chosen) : Type 0 where
  pub count : length found ≡ length rows
  pub each : (i : ℕ) (row : Epoch) (chosen : Chosen) → slice_get rows i ≡ Some row → slice_get found i ≡ Some chosen → IsChoice p b device (supply_in row) lines chosen

-- the first row for which there is no choice, counted from 1, and why there is none
pub record IsFirstRefused (p : Checked) (b : BoundsValue) (device : Device) (lines : ℕ) (rows : List Epoch) (number : ℕ) (fault : ChooseFault) : Type 0 where
  pub place : ℕ
  pub number_is : number ≡ place + 1
  pub row : Epoch
  pub row_is : slice_get rows place ≡ Some row
  pub none : IsNoChoice p b device (supply_in row) fault
  pub before : (i : ℕ) (earlier : Epoch) → i < place → slice_get rows i ≡ Some earlier → (chosen : Chosen) × IsChoice p b device (supply_in earlier) lines chosen

-- the fault of a row
abbrev pub fault_at : ℕ → ChooseFault → RowFault
fault_at number (choose.WindowTooLong spacing) = WindowTooLong number spacing
fault_at number (choose.Rejected verdict) = Rejected number verdict
fault_at number choose.NoMemory = NoMemory

-- why some row has no choice, or memory ran out
abbrev pub IsRowFault : Checked → BoundsValue → Device → ℕ → List Epoch → RowFault → Type 0
IsRowFault p b device lines rows (WindowTooLong number spacing) = IsFirstRefused p b device lines rows number (choose.WindowTooLong spacing)
IsRowFault p b device lines rows (Rejected number verdict) = IsFirstRefused p b device lines rows number (choose.Rejected verdict)
IsRowFault p b device lines rows NoMemory = Unit {0}
