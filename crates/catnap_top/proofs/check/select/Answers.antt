use Rattle.std.proofs.Common.{refl}
use Rattle.catnap_top.specs.Look.{goes}
use Rattle.catnap_top.proofs.Looks.{stops_first}
use Rattle.catnap_top.proofs.check.select.Goals as goal

pub returns-in-Ok : goal.returns-in-Ok
returns-in-Ok c = goes c.in-Ok.chosen.items c.in-Ok.ensures.versions refl

pub returns-in-Err : goal.returns-in-Err
returns-in-Err c = stops_first _ _ c.in-Err.stop c.in-Err.ensures.versions
