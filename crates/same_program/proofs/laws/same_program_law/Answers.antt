use Rattle.same_program.proofs.Programs.{same_of_tree}
use Rattle.same_program.proofs.laws.same_program_law.Goals as goal

pub returns : goal.returns
returns c = same_of_tree
