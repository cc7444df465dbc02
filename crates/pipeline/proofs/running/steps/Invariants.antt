use Rattle.std.proofs.Common.{◌-◌, ◌+◌, ◌≤◌}
use Rattle.cat_eval.specs.Cursor.{Fits}
use Rattle.pipeline.proofs.running.steps.Given as goal

abbrev pub invariant-steps : goal.invariant-steps
invariant-steps l = Fits l.program l.state × (l.most ≤ l.taken + l.outs.spare)

abbrev pub decreases-steps : goal.decreases-steps
decreases-steps l = l.most - l.taken
