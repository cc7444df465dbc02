use Rattle.cost_bounds.proofs.Programs.{runs_within}
use Rattle.cost_bounds.proofs.laws.runs_within_law.Goals as goal

pub returns : goal.returns
returns c = runs_within c.code_is_laid_out.ensures c.spending_law.ensures
