use Rattle.std.proofs.Common.{arith}
use Rattle.demand_core.specs.declared.Load.{Load}
use Rattle.demand_core.specs.Demand.{block}
use Rattle.demand_core.proofs.Closing.{longest_job-yes, longest_job-no, longest_job-end}
use Rattle.demand_core.proofs.demand.block.Goals as goal
use Rattle.demand_core.proofs.demand.block.Goals.{then-l-x+then-longest-x, else-l-x, else-l-x-via-then-l-x+else-longest-x, else-l-x-via-else-l-x}

abbrev none : Load
none = record { spacing = 0; deadline = 0; units = 0; ticks = 0 }

pub loop-x-preserved : goal.loop-x-preserved
loop-x-preserved c =
    elim c.if-l-x.branch [
      | then-l-x+then-longest-x w ↦
          let on = longest_job-yes c.args.loads.now c.loop-x.x-index c.args.l none c.loop-x-test.true w.if-l-x.true in omega arith
      | else-l-x w ↦ elim w.else-l-x.branch [
        | else-l-x-via-then-l-x+else-longest-x v ↦
            let on = longest_job-yes c.args.loads.now c.loop-x.x-index c.args.l none c.loop-x-test.true v.if-l-x.true in omega arith
        | else-l-x-via-else-l-x v ↦
            let on = longest_job-no c.args.loads.now c.loop-x.x-index c.args.l none c.loop-x-test.true v.if-l-x.false in omega arith
      ]
    ]

pub returns : goal.returns
unfolding block
returns c = let end = longest_job-end c.args.loads.now c.loop-x.x-index c.args.l c.loop-x-test.false in omega arith
