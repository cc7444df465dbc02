use Rattle.cost_bounds.proofs.Passing.{Passed}
use Rattle.cost_bounds.proofs.pass.pass.Given as goal

abbrev pub invariant-loop-done : goal.invariant-loop-done
invariant-loop-done l = Passed l.device l.code l.tasks l.most.items l.done
