use Rattle.std.proofs.Common.{◌≡◌, ℕ, ◌<◌, ◌≤◌, slice_get, Some}
use Rattle.cn_scheduler.specs.declared.plan.PlanRow.{PlanRow}
use Rattle.cn_scheduler.proofs.plan.Plan.row_until.Given as goal

abbrev pub invariant-loop-row : goal.invariant-loop-row
invariant-loop-row l =
    record {
      later : l.tick < 4294967295 → l.tick < l.until;
      far : (j : ℕ) (row : PlanRow) → j < l.row-index → slice_get l.self.rows j ≡ Some row → l.tick < row.from → l.until ≤ row.from;
    }
