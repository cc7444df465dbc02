-- How a fault of the code tells the fault of a table.
use Rattle.std.specs.Prelude.{◌≡◌, Result, Err, ⊤}
use Rattle.cn_tables.specs.declared.fault.TableFault.{TableFault}
use Rattle.cn_tables.specs.declared.fault.TableFault.TheVariants as fault
use Rattle.cn_tables.specs.Table.{Bad}

-- the fault is the one that the definition finds, or memory ran out
abbrev pub IsTableFault : {A : Type 0} → Result A Bad → TableFault → Type 0
IsTableFault found (fault.Bad row kind) = found ≡ Err (row, kind)
IsTableFault found fault.NoMemory = ⊤
