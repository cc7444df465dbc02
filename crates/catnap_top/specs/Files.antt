-- What each kind of file is looked at for, and the files of a replay.
use Rattle.std.specs.Prelude.{◌≡◌, ℕ, Bool, true, false, List, Option, Some, None, Result, Ok, Err}
use Rattle.cat_program.specs.Checked.{Checked}
use Rattle.cn_tables.specs.Table.{Bad}
use Rattle.device_profile.specs.Answer.{IsAnswer}
use Rattle.device_profile.specs.declared.fault.DeviceFault.{DeviceFault}
use Rattle.device_profile.specs.declared.fault.DeviceFault.TheVariants as device
use Rattle.event_arrivals.specs.Arrivals.{Lists, arrivals_of}
use Rattle.cn_runtime.specs.Steady.{steady_rows}
use Rattle.forecast_table.specs.Table.{forecast_of}
use Rattle.forecast_table.specs.declared.epoch.Epoch.{Epoch}
use Rattle.harvest_trace.specs.FailsTable.{fails_of}
use Rattle.harvest_trace.specs.TraceTable.{trace_of}
use Rattle.harvest_trace.specs.declared.failures.Failure.{Failure}
use Rattle.harvest_trace.specs.declared.row.TraceRow.{TraceRow}
use Rattle.nv_memory.specs.declared.device.Device.{Device}
use Rattle.catnap_top.specs.declared.files.ReplayFiles.{ReplayFiles}
use Rattle.catnap_top.specs.declared.stop.Stop.{Stop}
use Rattle.catnap_top.specs.declared.stop.Stop.TheVariants as stop
use Rattle.catnap_top.specs.declared.refusal.SourceFault.{SourceFault}
use Rattle.catnap_top.specs.declared.fault.ProfileFault.{ProfileFault}
use Rattle.catnap_top.specs.declared.fault.ProfileFault.TheVariants as profile
use Rattle.catnap_top.specs.declared.fault.Table.{Table}
use Rattle.catnap_top.specs.declared.fault.Table.TheVariants as table
use Rattle.catnap_top.specs.declared.fault.Fault.TheVariants as fault
use Rattle.catnap_top.specs.Source.{IsSourceOf, IsRefused}
use Rattle.catnap_top.specs.Look.{Look, ◌>>=◌, found, By}

-- ---- one file

-- a source tells a program, or is refused
abbrev pub IsSource : List ℕ → Result Checked SourceFault → Type 0
IsSource bytes (Ok p) = IsSourceOf bytes p
IsSource bytes (Err kind) = IsRefused bytes kind

abbrev pub program_in : List ℕ → Look Checked
program_in bytes = By fault.Source (IsSource bytes)

abbrev pub device_fault : ProfileFault → DeviceFault
device_fault profile.Long = device.DeviceLong
device_fault profile.Syntax = device.DeviceSyntax
device_fault (profile.Missing key) = device.DeviceKey key
device_fault profile.Extra = device.DeviceExtra
device_fault (profile.Range key) = device.DeviceRange key

-- a profile tells a device, or is refused
abbrev pub IsProfile : List ℕ → Result Device ProfileFault → Type 0
IsProfile bytes (Ok d) = IsAnswer bytes (Ok d)
IsProfile bytes (Err kind) = IsAnswer bytes (Err (device_fault kind))

-- a profile's fault, or want of memory
abbrev pub stop_of_device : DeviceFault → Stop
stop_of_device device.DeviceLong = stop.Refused (fault.Device profile.Long)
stop_of_device device.DeviceSyntax = stop.Refused (fault.Device profile.Syntax)
stop_of_device (device.DeviceKey key) = stop.Refused (fault.Device (profile.Missing key))
stop_of_device device.DeviceExtra = stop.Refused (fault.Device profile.Extra)
stop_of_device (device.DeviceRange key) = stop.Refused (fault.Device (profile.Range key))
stop_of_device device.NoMemory = stop.NoMemory

abbrev pub device_in : List ℕ → Look Device
device_in bytes = By fault.Device (IsProfile bytes)

-- what a table comes to, a fault being the first row's that has one
abbrev pub table_in : {A : Type 0} → Table → Result A Bad → Look A
table_in which told = By (λ bad. fault.Table which bad.0 bad.1) (λ came. told ≡ came)

abbrev pub trace_in : List ℕ → Look (List TraceRow)
trace_in bytes = table_in table.Trace (trace_of bytes)

-- the arrivals of a program's events on a trace
abbrev pub arrivals_in : Checked → List TraceRow → List ℕ → Look Lists
arrivals_in p trace bytes = table_in table.Arrivals (arrivals_of p.headers trace bytes)

abbrev pub failures_in : List ℕ → Look (List Failure)
failures_in bytes = table_in table.Fails (fails_of bytes)

abbrev pub forecast_in : List ℕ → Look (List Epoch)
forecast_in bytes = table_in table.Forecast (forecast_of bytes)

-- ---- the files of a replay

-- what is sure to be harvested, and whether a file says so
pub record Foreseen : Type 0 where
  pub given : Bool
  pub rows : List Epoch

-- what a device's profile says of it, or what a forecast's file says
abbrev pub foreseen_in : Device → Option (List ℕ) → Look Foreseen
foreseen_in d None = found (record { given = false; rows = steady_rows d })
foreseen_in d (Some forecast) = do
  rows ← forecast_in forecast
  found (record { given = true; rows = rows })

-- the files of a replay, in the order in which they are looked at
abbrev pub files_in : List ℕ → List ℕ → List ℕ → List ℕ → List ℕ → Option (List ℕ) → Look ReplayFiles
files_in source profile trace arrivals failures forecast = do
  p ← program_in source
  d ← device_in profile
  t ← trace_in trace
  a ← arrivals_in p t arrivals
  f ← failures_in failures
  w ← foreseen_in d forecast
  found (record { program = p; device = d; trace = t; arrivals = a; failures = f; given = w.given; forecast = w.rows })
