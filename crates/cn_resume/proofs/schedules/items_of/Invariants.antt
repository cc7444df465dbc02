use Rattle.std.proofs.Common.{◌≡◌, ◌++◌, drop}
use Rattle.logged_runs.specs.Own.{items_in}
use Rattle.cn_resume.proofs.schedules.items_of.Given as goal

abbrev pub invariant-loop-entry : goal.invariant-loop-entry
invariant-loop-entry l = l.items.items ++ items_in (drop l.entry-index l.entries) ≡ items_in l.entries
