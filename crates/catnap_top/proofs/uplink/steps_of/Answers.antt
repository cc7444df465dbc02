use Rattle.std.proofs.Common.{refl}
use Rattle.catnap_top.specs.Look.{fits, fails}
use Rattle.catnap_top.proofs.uplink.steps_of.Goals as goal

pub returns-in-Ok : goal.returns-in-Ok
returns-in-Ok c = fits c.in-Ok.steps c.in-Ok.ensures.ok refl

pub returns-in-Err-BadLink : goal.returns-in-Err-BadLink
returns-in-Err-BadLink c =
    let fault = rw c.in-Err-BadLink.field-0-is at c.in-Err-BadLink.ensures.fault in
    fails (c.in-Err-BadLink.row, c.in-Err-BadLink.kind) fault refl
