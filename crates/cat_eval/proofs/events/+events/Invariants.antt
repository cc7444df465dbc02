use Rattle.std.proofs.Common.{◌+◌, ◌*◌}
use Rattle.std.specs.Prelude.{max}
use Rattle.cat_program.specs.Body.{tree_of}
use Rattle.cat_eval.proofs.Handling.{Running, Turning}
use Rattle.cat_eval.proofs.events.+events.Given as goal

abbrev pub decreases-run_block : goal.decreases-run_block
decreases-run_block l = 3 * l.b + 2

abbrev pub decreases-run_stmt : goal.decreases-run_stmt
decreases-run_stmt l = 3 * l.b + 1

abbrev pub decreases-run_when : goal.decreases-run_when
decreases-run_when l = 3 * l.first + 3

abbrev pub decreases-run_choice : goal.decreases-run_choice
decreases-run_choice l = 3 * max l.first l.second + 3

abbrev pub decreases-run_turns : goal.decreases-run_turns
decreases-run_turns l = 3 * l.body + 3

abbrev pub invariant-run_block-loop-stmt : goal.invariant-run_block-loop-stmt
invariant-run_block-loop-stmt l = Running l.program l.b l.statements l.payload l.fn.state l.state l.fn.outs l.outs l.stmt-index

abbrev pub invariant-run_turns-loop-turn : goal.invariant-run_turns-loop-turn
invariant-run_turns-loop-turn l = Turning l.program l.count (tree_of l.program.blocks l.body) l.payload l.fn.state l.state l.fn.outs l.outs l.turn
