use Rattle.cn_object.proofs.Stuck.{never_stuck}
use Rattle.cn_object.proofs.laws.never_stuck_law.Goals as goal

pub returns : goal.returns
returns c = never_stuck
