-- `check SRC DEVICE` and `check SRC DEVICE FORECAST`: the versions in which a device can serve a source's events.
use Rattle.std.specs.Prelude.{ℕ, Bool, true, false, List}
use Rattle.cat_program.specs.Checked.{Checked}
use Rattle.degradation.specs.declared.chosen.Chosen.{Chosen}
use Rattle.cn_runtime.specs.Steady.{steady_rows}
use Rattle.forecast_table.specs.declared.epoch.Epoch.{Epoch}
use Rattle.nv_memory.specs.declared.device.Device.{Device}
use Rattle.cn_report.specs.Report.{rows_text}
use Rattle.catnap_top.specs.declared.status.Status.TheVariants.{Done}
use Rattle.catnap_top.specs.Answer.{Answer}
use Rattle.catnap_top.specs.Look.{Look, ◌>>=◌, found}
use Rattle.catnap_top.specs.Files.{program_in, device_in, forecast_in}
use Rattle.catnap_top.specs.Served.{versions_in}

-- the lines of the choice for each row of a forecast, which is shown where a file gave it
abbrev pub checked : Checked → Bool → List Epoch → List Chosen → Answer
checked p given rows chosen = record { status = Done; text = rows_text p.headers given rows chosen }

-- the choices for each row of a forecast, and then their lines
abbrev pub choosing : Checked → Device → Bool → List Epoch → Look Answer
choosing p d given rows = do
  chosen ← versions_in p d given rows
  found (checked p given rows chosen)

-- `check` over a source and a profile, which alone says what is harvested
abbrev pub checking : List ℕ → List ℕ → Look Answer
checking source profile = do
  p ← program_in source
  d ← device_in profile
  choosing p d false (steady_rows d)

-- `check` over a source, a profile and a forecast
abbrev pub checking_rows : List ℕ → List ℕ → List ℕ → Look Answer
checking_rows source profile forecast = do
  p ← program_in source
  d ← device_in profile
  rows ← forecast_in forecast
  choosing p d true rows
