use Rattle.cat_eval.proofs.TaskPlaces.{Looking}
use Rattle.cat_eval.proofs.places.rest_of.Given as goal

abbrev pub invariant-loop-t : goal.invariant-loop-t
invariant-loop-t l = Looking l.program l.pc l.left l.t
