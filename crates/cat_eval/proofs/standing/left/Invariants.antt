use Rattle.cat_eval.proofs.Leaving.{Leaving}
use Rattle.cat_eval.proofs.standing.left.Given as goal

abbrev pub invariant-loop-frame : goal.invariant-loop-frame
invariant-loop-frame l = Leaving l.program l.frames l.rest l.frame-index
