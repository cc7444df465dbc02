use Rattle.same_program.proofs.Likeness.{state_turned, state_onward}
use Rattle.same_program.proofs.laws.alike_law.Goals as goal

pub returns-clause-turned : goal.returns-clause-turned
returns-clause-turned c = state_turned

pub returns-clause-onward : goal.returns-clause-onward
returns-clause-onward c = state_onward
