-- How a fault of the code tells the fault of its table.
use Rattle.std.specs.Prelude.{◌≡◌, Result, Err, ⊤}
use Rattle.cn_tables.specs.Table.{Bad}
use Rattle.forecast_table.specs.declared.table.ForecastFault.{ForecastFault}
use Rattle.forecast_table.specs.declared.table.ForecastFault.TheVariants as fault

-- the fault is the one that the definition finds, or memory ran out
abbrev pub IsForecastFault : {A : Type 0} → Result A Bad → ForecastFault → Type 0
IsForecastFault found (fault.BadForecast row kind) = found ≡ Err (row, kind)
IsForecastFault found fault.NoMemory = ⊤
