use Rattle.std.proofs.Common.{◌≡◌, take}
use Rattle.degradation.specs.Choice.{tables_of}
use Rattle.degradation.proofs.tables.tables.Given as goal

abbrev pub invariant-loop-e : goal.invariant-loop-e
invariant-loop-e l = l.tables.items ≡ take l.e (tables_of l.program.headers l.bounds.jobs)
