use Rattle.catnap_top.proofs.OneObject.{one_object}
use Rattle.catnap_top.proofs.one.one_object.Goals as goal

pub returns : goal.returns
returns c = one_object c.one_object_law.ensures c.one_verdict_law.ensures.refused c.one_verdict_law.ensures.either
