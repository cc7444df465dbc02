use Rattle.feasibility.proofs.Short.{deadlines_short}
use Rattle.feasibility.proofs.plain.feasible.Goals as goal

pub least_deadline-requires : goal.least_deadline-requires
least_deadline-requires c = deadlines_short c.args.base.now c.args.loads.now c.args.window 1000000 c.requires.repeats c.requires.window c.requires.short
