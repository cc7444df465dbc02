use Rattle.cn_runtime.proofs.Readied.{are_set_up}
use Rattle.cn_runtime.proofs.plans.plans_are_set_up.Goals as goal

pub returns : goal.returns
returns c = are_set_up
