use Rattle.compiled_objects.proofs.Whole.{whole_verified}
use Rattle.compiled_objects.proofs.laws.compiled_code_is_verified.Goals as goal

pub returns : goal.returns
returns c = λ p checked. whole_verified c.code_is_laid_out.ensures c.handler_paths_law.ensures p checked
