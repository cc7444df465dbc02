use Rattle.std.proofs.Common.{◌<◌, length, ap, arith, List}
use Rattle.std.proofs.lemmas.Option.{slice_get_within}
use Rattle.cn_scheduler.specs.declared.plan.PlanRow.{PlanRow}
use Rattle.cn_scheduler.proofs.Rows.{row_stays}
use Rattle.cn_scheduler.proofs.plan.Plan.row_until.Goals as goal

pub returns-clause-same : goal.returns-clause-same
returns-clause-same c = λ t later before.
    let rows = c.args.self.now.rows in
    row_stays rows c.args.tick c.loop-row.until t
    (λ j row is after. let seen : j < c.loop-row.row-index = omega (arith, slice_get_within rows j row is, ap (λ (xs : List PlanRow). length xs) c.as_slice-row-items.ensures, c.loop-row-test.false) in c.loop-row.invariant.far j row seen is after) later before
