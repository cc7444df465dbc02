use Rattle.std.proofs.Common.{ℕ, ◌+◌, ◌-◌, ◌≤◌, arith}
use Rattle.demand_core.specs.Demand.{rbf, sbf}
use Rattle.feasibility.proofs.Lists.{bounded_more}
use Rattle.feasibility.proofs.kept.most_at_multiples.Goals as goal

pub loop-l-preserved : goal.loop-l-preserved
loop-l-preserved c =
    let next = c.most_with-most.ensures.value in
    record {
      turns = c.loop-l.invariant.turns + 1;
      at = omega arith;
      near = omega arith;
      floor = omega arith;
      bound = c.most_with-most.ensures.bound;
      each = bounded_more (λ n. rbf c.args.loads.now n - sbf c.args.base.now n) c.loop-l.invariant.turns c.args.spacing c.loop-l.l c.loop-l.most
          (rbf c.args.loads.now c.loop-l.l - sbf c.args.base.now c.loop-l.l) c.most_with-most.result
          c.loop-l.invariant.at (omega arith) (omega arith) (λ i. rbf c.args.loads.now c.loop-l.l - sbf c.args.base.now c.loop-l.l) c.loop-l.invariant.each;
      least = λ bound le below.
          let old = c.loop-l.invariant.least bound le below in
          let here = below c.loop-l.l c.loop-l-test.true in
          omega arith;
    }
