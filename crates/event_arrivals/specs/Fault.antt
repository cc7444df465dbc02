-- How a fault of the code tells the fault of its table.
use Rattle.std.specs.Prelude.{◌≡◌, Result, Err, ⊤}
use Rattle.cn_tables.specs.Table.{Bad}
use Rattle.event_arrivals.specs.declared.table.ArrivalsFault.{ArrivalsFault}
use Rattle.event_arrivals.specs.declared.table.ArrivalsFault.TheVariants as fault

-- the fault is the one that the definition finds, or memory ran out
abbrev pub IsArrivalsFault : {A : Type 0} → Result A Bad → ArrivalsFault → Type 0
IsArrivalsFault found (fault.BadArrivals row kind) = found ≡ Err (row, kind)
IsArrivalsFault found fault.NoMemory = ⊤
