use Rattle.same_program.proofs.Choices.{one_choice, one_reason, no_reason}
use Rattle.same_program.proofs.laws.one_choice_law.Goals as goal

pub returns-clause-choice : goal.returns-clause-choice
returns-clause-choice c = one_choice

pub returns-clause-reason : goal.returns-clause-reason
returns-clause-reason c = one_reason

pub returns-clause-either : goal.returns-clause-either
returns-clause-either c = no_reason
