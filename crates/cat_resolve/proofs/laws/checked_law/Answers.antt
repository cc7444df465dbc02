use Rattle.cat_resolve.proofs.Small.{is_small, few_blocks}
use Rattle.cat_resolve.proofs.IsProgram.{is_checked}
use Rattle.cat_resolve.proofs.StandingCounts.{block_deep}
use Rattle.cat_resolve.proofs.laws.checked_law.Goals as goal

pub returns-clause-small : goal.returns-clause-small
returns-clause-small c = is_small

pub returns-clause-few_blocks : goal.returns-clause-few_blocks
returns-clause-few_blocks c = few_blocks

pub returns-clause-checked : goal.returns-clause-checked
returns-clause-checked c = is_checked (block_deep c.nests_law.ensures c.plain_law.ensures.actions)
