use Rattle.std.proofs.Common.{ℕ, ◌<◌}
use Rattle.cn_object.specs.Depths.{StackAt}
use Rattle.cn_object.specs.Passing.{IsSummary}
use Rattle.cn_object.proofs.depths.pass.Given as goal

abbrev pub invariant-loop-pc : goal.invariant-loop-pc
invariant-loop-pc l = IsSummary l.code l.pc l.brought × ((q : ℕ) → q < l.pc → StackAt l.code q)
