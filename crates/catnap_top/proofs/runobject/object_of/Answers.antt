use Rattle.std.proofs.Common.{refl}
use Rattle.catnap_top.specs.Look.{fits, fails}
use Rattle.catnap_top.proofs.runobject.object_of.Goals as goal

pub returns-in-Ok-clause-looks : goal.returns-in-Ok-clause-looks
returns-in-Ok-clause-looks c = fits c.in-Ok.object c.in-Ok.ensures refl

pub returns-in-Err-BadObject-clause-looks : goal.returns-in-Err-BadObject-clause-looks
returns-in-Err-BadObject-clause-looks c =
    let fault = rw c.in-Err-BadObject.field-0-is at c.in-Err-BadObject.ensures in
    fails (record { kind = c.in-Err-BadObject.kind; place = c.in-Err-BadObject.place }) fault refl
