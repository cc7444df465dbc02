use Rattle.same_runs.proofs.Given.{SameSteps, Likeness}
use Rattle.same_runs.proofs.Runs.{same_runs, same_ends, same_faults}
use Rattle.same_runs.proofs.laws.same_runs_law.Goals as goal

pub returns-clause-runs : goal.returns-clause-runs
returns-clause-runs c =
    let steps : SameSteps = record { first = c.same_steps_law.ensures.first; step = c.same_steps_law.ensures.step; handled = c.same_steps_law.ensures.handled } in
    same_runs steps

pub returns-clause-ends : goal.returns-clause-ends
returns-clause-ends c =
    let steps : SameSteps = record { first = c.same_steps_law.ensures.first; step = c.same_steps_law.ensures.step; handled = c.same_steps_law.ensures.handled } in
    same_ends steps c.one_reference.ensures.end

pub returns-clause-faults : goal.returns-clause-faults
returns-clause-faults c =
    let steps : SameSteps = record { first = c.same_steps_law.ensures.first; step = c.same_steps_law.ensures.step; handled = c.same_steps_law.ensures.handled } in
    let likeness : Likeness = record { turned = c.alike_law.ensures.turned; onward = c.alike_law.ensures.onward } in
    same_faults steps likeness
