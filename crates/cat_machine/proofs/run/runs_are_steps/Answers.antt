use Rattle.cat_machine.proofs.Endings.{runs_are_steps}
use Rattle.cat_machine.proofs.run.runs_are_steps.Goals as goal

pub returns : goal.returns
returns c = runs_are_steps
