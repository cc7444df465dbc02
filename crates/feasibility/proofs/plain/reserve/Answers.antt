use Rattle.std.proofs.Common.{◌≡◌, ◌-◌, arith, lit≤}
use Rattle.demand_core.specs.Demand.{rbf, sbf}
use Rattle.feasibility.proofs.plain.reserve.Goals as goal
use Rattle.feasibility.proofs.plain.reserve.Goals.{then-given-asked+then-most-asked, else-given-asked, else-given-asked-via-then-given-asked+else-most-asked, else-given-asked-via-else-given-asked}
use Rattle.feasibility.proofs.Lists.{most-zero, most-suc}

pub loop-l-init : goal.loop-l-init
loop-l-init c = (most-zero (λ n. rbf c.args.loads.now n - sbf c.args.base.now n), lit≤ tt)

pub loop-l-preserved : goal.loop-l-preserved
loop-l-preserved c =
    let next = most-suc (λ n. rbf c.args.loads.now n - sbf c.args.base.now n) c.loop-l.l in
    let asked : c.rbf-asked.result ≡ rbf c.args.loads.now c.loop-l.l = c.rbf-asked.ensures.value in
    let given : c.sbf-given.result ≡ sbf c.args.base.now c.loop-l.l = c.sbf-given.ensures in
    let bound = c.rbf-asked.ensures.bound in
    elim c.if-given-asked.branch [
      | then-given-asked+then-most-asked w ↦ (omega arith, omega arith)
      | else-given-asked w ↦ elim w.else-given-asked.branch [
        | else-given-asked-via-then-given-asked+else-most-asked v ↦ (omega arith, omega arith)
        | else-given-asked-via-else-given-asked v ↦ (omega arith, omega arith)
      ]
    ]
