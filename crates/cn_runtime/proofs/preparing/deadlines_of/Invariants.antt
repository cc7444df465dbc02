use Rattle.std.proofs.Common.{◌≡◌, ◌++◌, drop}
use Rattle.cn_runtime.specs.Planned.{deadlines_in}
use Rattle.cn_runtime.proofs.preparing.deadlines_of.Given as goal

abbrev pub invariant-events : goal.invariant-events
invariant-events l = deadlines_in l.program.headers ≡ l.found.items ++ deadlines_in (drop l.number l.program.headers)
