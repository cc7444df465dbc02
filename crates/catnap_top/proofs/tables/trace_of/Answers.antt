use Rattle.std.proofs.Common.{refl}
use Rattle.catnap_top.specs.Look.{fits, fails}
use Rattle.catnap_top.proofs.tables.trace_of.Goals as goal

pub returns-in-Ok : goal.returns-in-Ok
returns-in-Ok c = fits c.in-Ok.trace c.in-Ok.ensures.ok refl

pub returns-in-Err-BadTrace : goal.returns-in-Err-BadTrace
returns-in-Err-BadTrace c =
    let fault = rw c.in-Err-BadTrace.field-0-is at c.in-Err-BadTrace.ensures.fault in
    fails (c.in-Err-BadTrace.row, c.in-Err-BadTrace.kind) fault refl
