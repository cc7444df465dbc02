-- How a fault of the code tells the fault of its table.
use Rattle.std.specs.Prelude.{◌≡◌, Result, Err, ⊤}
use Rattle.cn_tables.specs.Table.{Bad}
use Rattle.harvest_trace.specs.declared.failures_table.FailsFault.{FailsFault}
use Rattle.harvest_trace.specs.declared.failures_table.FailsFault.TheVariants as fails
use Rattle.harvest_trace.specs.declared.trace_table.TraceFault.{TraceFault}
use Rattle.harvest_trace.specs.declared.trace_table.TraceFault.TheVariants as trace

-- the fault is the one that the definition finds, or memory ran out
abbrev pub IsTraceFault : {A : Type 0} → Result A Bad → TraceFault → Type 0
IsTraceFault found (trace.BadTrace row kind) = found ≡ Err (row, kind)
IsTraceFault found trace.NoMemory = ⊤

abbrev pub IsFailsFault : {A : Type 0} → Result A Bad → FailsFault → Type 0
IsFailsFault found (fails.BadFails row kind) = found ≡ Err (row, kind)
IsFailsFault found fails.NoMemory = ⊤
