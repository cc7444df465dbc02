use Rattle.cat_program.proofs.FewOuts.{outs_most}
use Rattle.cat_program.proofs.laws.outputs_law.Goals as goal

pub returns : goal.returns
returns c = outs_most
