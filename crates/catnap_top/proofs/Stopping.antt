-- What ends a look early.
use Rattle.std.proofs.Common.{ℕ, List, refl}
use Rattle.std.specs.Prelude.{Bool}
use Rattle.std.specs.Prelude.{Err}
use Rattle.cat_program.specs.Checked.{Checked}
use Rattle.cost_bounds.specs.BoundsValue.{BoundsValue}
use Rattle.cost_bounds.specs.Greatest.{AreBounds}
use Rattle.degradation.specs.Placed.{IsLayoutOf}
use Rattle.device_profile.specs.Answer.{IsAnswer}
use Rattle.device_profile.specs.declared.fault.DeviceFault.{DeviceFault}
use Rattle.device_profile.specs.declared.fault.DeviceFault.TheVariants as device
use Rattle.forecast_choice.specs.declared.rows.RowFault.{RowFault}
use Rattle.forecast_choice.specs.declared.rows.RowFault.TheVariants as choose_rows
use Rattle.forecast_choice.specs.Rows.{IsRowFault}
use Rattle.forecast_table.specs.declared.epoch.Epoch.{Epoch}
use Rattle.nv_memory.specs.declared.device.Device.{Device}
use Rattle.nv_memory.specs.declared.layout.Layout.{Layout}
use Rattle.nv_memory.specs.Layout.{lines_of}
use Rattle.catnap_top.specs.declared.fault.NoChoice.TheVariants as none
use Rattle.catnap_top.specs.declared.fault.ProfileFault.TheVariants as profile
use Rattle.catnap_top.specs.Files.{device_in, stop_of_device}
use Rattle.catnap_top.specs.Look.{Stops, fails}
use Rattle.catnap_top.specs.Served.{versions_in, stop_of_rows}

pub device_stops : (bytes : List ℕ) (f : DeviceFault) → IsAnswer bytes (Err f) → Stops (device_in bytes) (stop_of_device f)
device_stops bytes device.DeviceLong h = fails profile.Long h refl
device_stops bytes device.DeviceSyntax h = fails profile.Syntax h refl
device_stops bytes (device.DeviceKey key) h = fails (profile.Missing key) h refl
device_stops bytes device.DeviceExtra h = fails profile.Extra h refl
device_stops bytes (device.DeviceRange key) h = fails (profile.Range key) h refl
device_stops bytes device.NoMemory h = tt

pub rows_stop : (p : Checked) (d : Device) (given : Bool) (rows : List Epoch) (l : Layout) (b : BoundsValue) (f : RowFault) → IsLayoutOf p d l → AreBounds p d (lines_of l) b
    → IsRowFault p b d (lines_of l) rows f → Stops (versions_in p d given rows) (stop_of_rows given f)
rows_stop p d given rows l b (choose_rows.WindowTooLong number spacing) layout bounds h =
    fails (number, none.Window spacing) (record { l = l; b = b; layout = layout; bounds = bounds; choices = h }) refl
rows_stop p d given rows l b (choose_rows.Rejected number verdict) layout bounds h =
    fails (number, none.Rejected verdict) (record { l = l; b = b; layout = layout; bounds = bounds; choices = h }) refl
rows_stop p d given rows l b choose_rows.NoMemory layout bounds h = tt
