use Rattle.same_program.proofs.Steps.{same_first, same_step, same_versions}
use Rattle.same_program.proofs.laws.same_steps_law.Goals as goal

pub returns-clause-first : goal.returns-clause-first
returns-clause-first c = same_first

pub returns-clause-step : goal.returns-clause-step
returns-clause-step c = same_step

pub returns-clause-handled : goal.returns-clause-handled
returns-clause-handled c = same_versions
