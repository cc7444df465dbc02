use Rattle.std.proofs.Common.{◌-◌, ◌+◌, ◌≤◌}
use Rattle.pipeline.specs.Between.{IsHandling}
use Rattle.pipeline.proofs.running.instructions.Given as goal

abbrev pub invariant-instructions : goal.invariant-instructions
invariant-instructions l = IsHandling l.program l.code l.working × (l.most ≤ l.taken + l.outs.spare)

abbrev pub decreases-instructions : goal.decreases-instructions
decreases-instructions l = l.most - l.taken
