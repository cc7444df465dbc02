use Rattle.cn_object.proofs.Verdicts.{one_verdict, not_both}
use Rattle.cn_object.proofs.laws.one_verdict_law.Goals as goal

pub returns-clause-refused : goal.returns-clause-refused
returns-clause-refused c = one_verdict

pub returns-clause-either : goal.returns-clause-either
returns-clause-either c = not_both
