use Rattle.std.proofs.Common.{◌-◌, ◌+◌, ◌≤◌}
use Rattle.pipeline.specs.Between.{IsBetween}
use Rattle.pipeline.proofs.running.sections.Given as goal

abbrev pub invariant-sections : goal.invariant-sections
invariant-sections l = IsBetween l.program l.code l.working × (l.most ≤ l.taken + l.outs.spare)

abbrev pub decreases-sections : goal.decreases-sections
decreases-sections l = l.most - l.taken
