use Rattle.std.proofs.Common.{refl}
use Rattle.catnap_top.specs.Look.{fits, fails}
use Rattle.catnap_top.proofs.tables.failures_of.Goals as goal

pub returns-in-Ok : goal.returns-in-Ok
returns-in-Ok c = fits c.in-Ok.failures c.in-Ok.ensures.ok refl

pub returns-in-Err-BadFails : goal.returns-in-Err-BadFails
returns-in-Err-BadFails c =
    let fault = rw c.in-Err-BadFails.field-0-is at c.in-Err-BadFails.ensures.fault in
    fails (c.in-Err-BadFails.row, c.in-Err-BadFails.kind) fault refl
