use Rattle.std.proofs.Common.{refl, sym, subst}
use Rattle.cost_bounds.specs.Greatest.{AreBounds}
use Rattle.cn_plan.specs.Least.{IsLeast}
use Rattle.catnap_top.specs.Look.{Stops, fits}
use Rattle.catnap_top.specs.Plan.{plan_in}
use Rattle.catnap_top.proofs.OnePlan.{plan_stops}
use Rattle.catnap_top.proofs.plan.plan_of.Goals as goal

pub returns-in-Ok-clause-plan : goal.returns-in-Ok-clause-plan
returns-in-Ok-clause-plan c =
    let p = c.args.program.now in
    let d = c.args.device.now in
    fits c.in-Ok.plan
    (record {
      l = c.layout_of-layout.result;
      b = c.in_ok-bounds.bounds;
      layout = c.layout_of-layout.ensures;
      bounds = subst (λ n. AreBounds p d n c.in_ok-bounds.bounds) c.lines-lines.ensures.value c.in_ok-bounds.ensures;
      plan = subst (λ n. IsLeast p c.in_ok-bounds.bounds d n c.in-Ok.plan) c.lines-lines.ensures.value c.in-Ok.ensures.least;
    })
    refl

pub returns-clause-plan : goal.returns-clause-plan
returns-clause-plan c =
    let p = c.args.program.now in
    let d = c.args.device.now in
    subst (Stops (plan_in p d)) (sym c.stop_for_plan.ensures)
    (plan_stops p d c.layout_of-layout.result c.in_ok-bounds.bounds c.in-Err.fault c.layout_of-layout.ensures
    (subst (λ n. AreBounds p d n c.in_ok-bounds.bounds) c.lines-lines.ensures.value c.in_ok-bounds.ensures) c.in-Err.ensures.refused)
