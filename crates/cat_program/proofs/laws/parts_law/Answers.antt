use Rattle.cat_program.proofs.EachPart.{each_part}
use Rattle.cat_program.proofs.laws.parts_law.Goals as goal

pub returns : goal.returns
returns c = each_part
