-- How a fault of the code tells the fault of its table.
use Rattle.std.specs.Prelude.{◌≡◌, Result, Err, ⊤}
use Rattle.cn_tables.specs.Table.{Bad}
use Rattle.cn_uplink.specs.declared.table.LinkFault.{LinkFault}
use Rattle.cn_uplink.specs.declared.table.LinkFault.TheVariants as fault

-- the fault is the one that the definition finds, or memory ran out
abbrev pub IsLinkFault : {A : Type 0} → Result A Bad → LinkFault → Type 0
IsLinkFault found (fault.BadLink row kind) = found ≡ Err (row, kind)
IsLinkFault found fault.NoMemory = ⊤
