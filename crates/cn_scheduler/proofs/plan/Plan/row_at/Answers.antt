use Rattle.std.proofs.Common.{◌≡◌, ◌<◌, length, slice_get, None, MatchOption, Option, ℕ, subst}
use Rattle.cn_scheduler.specs.declared.plan.PlanRow.{PlanRow}
use Rattle.cn_scheduler.proofs.Rows.{is_in, is_out}
use Rattle.cn_scheduler.proofs.plan.Plan.row_at.Goals as goal

pub loop-i-preserved-then-tick-row : goal.loop-i-preserved-then-tick-row
loop-i-preserved-then-tick-row c =
    let rows = c.args.self.now.rows in
    subst (λ (o : Option PlanRow). MatchOption c.loop-i.found (o ≡ None) (λ (j : ℕ). (j < length rows) × (slice_get rows j ≡ o)))
    (is_out rows c.as_slice-row-items.result.now c.loop-i.i c.args.tick c.row-item.result c.as_slice-row-items.ensures c.loop-i-test.true c.row-item.is c.if-tick-row.true) c.loop-i.invariant

pub loop-i-preserved : goal.loop-i-preserved
loop-i-preserved c =
    is_in c.args.self.now.rows c.as_slice-row-items.result.now c.loop-i.i c.args.tick c.row-item.result c.as_slice-row-items.ensures c.loop-i-test.true c.row-item.is c.if-tick-row.false
