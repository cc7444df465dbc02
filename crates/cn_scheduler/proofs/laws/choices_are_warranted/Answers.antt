use Rattle.cn_scheduler.proofs.Once.{choice_once}
use Rattle.cn_scheduler.proofs.Warranted.{warranted}
use Rattle.cn_scheduler.proofs.laws.choices_are_warranted.Goals as goal

pub returns-clause-once : goal.returns-clause-once
returns-clause-once c = choice_once

pub returns-clause-warranted : goal.returns-clause-warranted
returns-clause-warranted c = warranted
