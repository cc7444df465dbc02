use Rattle.std.proofs.Common.{ℕ, ◌<◌}
use Rattle.cn_object.specs.Loops.{LoopsAt}
use Rattle.cn_object.proofs.loops.loop_fault.Given as goal

abbrev pub invariant-loop-pc : goal.invariant-loop-pc
invariant-loop-pc l = (q : ℕ) → q < l.pc → LoopsAt l.code q
