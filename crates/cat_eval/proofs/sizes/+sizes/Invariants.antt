use Rattle.std.proofs.Common.{◌+◌, ◌*◌}
use Rattle.cat_eval.proofs.Sizing.{Sizing}
use Rattle.cat_eval.proofs.sizes.+sizes.Given as goal

abbrev pub decreases-block_size : goal.decreases-block_size
decreases-block_size l = 2 * l.b + 2

abbrev pub decreases-stmt_size : goal.decreases-stmt_size
decreases-stmt_size l = 2 * l.b + 1

abbrev pub invariant-block_size-loop-stmt : goal.invariant-block_size-loop-stmt
invariant-block_size-loop-stmt l = Sizing l.program.blocks l.b l.statements l.size l.stmt-index
