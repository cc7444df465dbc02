use Rattle.cn_base.proofs.NestLaws.{statement_nests}
use Rattle.cn_base.proofs.laws.nests_law.Goals as goal

pub returns : goal.returns
returns c = statement_nests
