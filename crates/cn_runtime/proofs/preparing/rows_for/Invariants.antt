use Rattle.std.proofs.Common.{◌≡◌, ◌++◌, drop}
use Rattle.cn_runtime.specs.Planned.{plan_rows}
use Rattle.cn_runtime.proofs.preparing.rows_for.Given as goal

abbrev pub invariant-rows : goal.invariant-rows
invariant-rows l = plan_rows l.forecast l.chosen ≡ l.rows.items ++ plan_rows (drop l.place l.forecast) (drop l.place l.chosen)
