use Rattle.demand_core.proofs.Closing.{block-le, each_blocks, longest_blocks}
use Rattle.demand_core.proofs.blocking_law.Goals as goal

pub returns : goal.returns
returns c = record { falls = block-le; chunk = longest_blocks; job = each_blocks }
