use Rattle.nv_memory.proofs.LayoutLemmas.{apart}
use Rattle.nv_memory.proofs.laws.parts_are_apart.Goals as goal

pub returns : goal.returns
returns c = apart
