use Rattle.cn_runtime.proofs.RowNumbers.{are_planned}
use Rattle.cn_runtime.proofs.plans.plans_are_planned.Goals as goal

pub returns : goal.returns
returns c = are_planned c.chosen_rows_law.ensures.chosen
