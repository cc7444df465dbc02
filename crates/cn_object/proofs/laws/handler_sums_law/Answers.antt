use Rattle.cn_object.proofs.Sums.{handler_sums}
use Rattle.cn_object.proofs.laws.handler_sums_law.Goals as goal

pub returns : goal.returns
returns c = handler_sums
