use Rattle.nv_memory.proofs.SameLayout.{layout_same}
use Rattle.nv_memory.proofs.laws.layouts_are_numbers.Goals as goal

pub returns : goal.returns
returns c = layout_same
