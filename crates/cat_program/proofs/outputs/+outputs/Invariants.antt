use Rattle.std.proofs.Common.{◌+◌, ◌*◌}
use Rattle.cat_program.proofs.Counting.{Counting}
use Rattle.cat_program.proofs.outputs.+outputs.Given as goal

abbrev pub decreases-block_outs : goal.decreases-block_outs
decreases-block_outs l = 2 * l.b + 2

abbrev pub decreases-stmt_outs : goal.decreases-stmt_outs
decreases-stmt_outs l = 2 * l.b + 1

abbrev pub invariant-block_outs-loop-stmt : goal.invariant-block_outs-loop-stmt
invariant-block_outs-loop-stmt l = Counting l.program.blocks l.b l.statements l.outs l.stmt-index
