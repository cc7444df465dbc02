use Rattle.cat_machine.proofs.InCode.{path_in}
use Rattle.cat_machine.proofs.run.runs_are_in_code.Goals as goal

pub returns : goal.returns
returns c = path_in
