use Rattle.feasibility.proofs.Closed.{yes_gives}
use Rattle.feasibility.proofs.decide.feasible.Goals as goal

pub returns-clause-energy : goal.returns-clause-energy
returns-clause-energy c =
    yes_gives c.args.base.now c.args.loads.now c.args.window c.first_failing.result _
    (λ is l. c.closing_law.ensures.energy c.args.base.now c.args.loads.now c.args.window l c.requires.repeats c.requires.window is) c.first_failing.ensures.verdict

pub returns-clause-time : goal.returns-clause-time
returns-clause-time c =
    yes_gives c.args.base.now c.args.loads.now c.args.window c.first_failing.result _
    (λ is l some enough. c.closing_law.ensures.time c.args.base.now c.args.loads.now c.args.window l c.requires.repeats c.requires.window is some enough) c.first_failing.ensures.verdict
