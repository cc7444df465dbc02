use Rattle.std.proofs.Common.{subst}
use Rattle.cat_machine.specs.Code.{code_of}
use Rattle.cost_bounds.specs.Pass.{AreMade}
use Rattle.cost_bounds.proofs.Ends.{tasks_end}
use Rattle.cost_bounds.proofs.Made.{are_bounds}
use Rattle.cost_bounds.proofs.laws.compiled_bounds_law.Goals as goal

pub returns : goal.returns
returns c = λ p device lines b checked fits made.
    let laid = c.code_is_laid_out.ensures in
    are_bounds laid p device lines fits checked b (subst (λ n. AreMade (code_of p) device lines n b) (tasks_end laid p checked) made)
