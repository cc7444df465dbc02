use Rattle.cn_scheduler.proofs.Beginning.{first_belongs}
use Rattle.cn_scheduler.proofs.laws.first_belongs.Goals as goal

pub returns : goal.returns
returns c = first_belongs
