use Rattle.same_program.proofs.Codes.{code_same, same_listing}
use Rattle.same_program.proofs.laws.same_code_law.Goals as goal

pub returns-clause-code : goal.returns-clause-code
returns-clause-code c = code_same

pub returns-clause-listing : goal.returns-clause-listing
returns-clause-listing c = same_listing
