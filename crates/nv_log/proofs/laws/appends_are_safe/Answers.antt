use Rattle.nv_log.proofs.AppendLemmas.{torn, done}
use Rattle.nv_log.proofs.laws.appends_are_safe.Goals as goal

pub returns : goal.returns
returns c = record { torn = torn c.writes_are_local.ensures c.parts_are_apart.ensures; done = done c.writes_are_local.ensures c.parts_are_apart.ensures }
