use Rattle.cost_bounds.proofs.Programs.{handler_greatest}
use Rattle.cost_bounds.proofs.laws.handler_paths_law.Goals as goal

pub returns : goal.returns
returns c = λ u p checked. handler_greatest c.code_is_laid_out.ensures u p checked
