use Rattle.cn_object.proofs.Files.{one_object}
use Rattle.cn_object.proofs.laws.one_object_law.Goals as goal

pub returns : goal.returns
returns c = one_object
