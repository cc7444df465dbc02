use Rattle.cost_bounds.proofs.Runs.{section_is_path}
use Rattle.cost_bounds.proofs.laws.sections_are_paths.Goals as goal

pub returns : goal.returns
returns c = section_is_path c.code_is_laid_out.ensures
