use Rattle.std.proofs.Common.{ℕ, ◌<◌}
use Rattle.cn_object.specs.Operands.{OperandsAt}
use Rattle.cn_object.proofs.operands.operand_fault.Given as goal

abbrev pub invariant-loop-pc : goal.invariant-loop-pc
invariant-loop-pc l = (q : ℕ) → q < l.pc → OperandsAt l.words l.tasks l.code q
