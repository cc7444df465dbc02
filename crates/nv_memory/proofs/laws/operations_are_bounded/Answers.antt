use Rattle.nv_memory.proofs.BytesLemmas.{length-repeated}
use Rattle.nv_memory.proofs.Steps.{IsIn-leaving}
use Rattle.nv_memory.proofs.AnyBoardLemmas.{some_of, few_of, some_ticks_of}
use Rattle.nv_memory.proofs.laws.operations_are_bounded.Goals as goal

pub returns : goal.returns
returns c = record { some = some_of; few = few_of; ticks = some_ticks_of; filling = length-repeated; within = IsIn-leaving }
