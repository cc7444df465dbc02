use Rattle.std.proofs.Common.{◌≡◌, ◌<◌, ◌≤◌, take, All}
use Rattle.feasibility.specs.Chosen.{loads_of}
use Rattle.degradation.specs.Choice.{tables_of}
use Rattle.cn_plan.proofs.whole.whole_loads.Given as goal

abbrev pub invariant-loop-e : goal.invariant-loop-e
invariant-loop-e l = record {
  loads : l.loads.items ≡ loads_of (tables_of l.program.headers l.bounds.jobs) (take 0 l.program.mentions) l.e;
  spacings : All (λ x. 0 < x.spacing) l.loads.items;
  within : All (λ x. x.deadline ≤ x.spacing) l.loads.items;
}
