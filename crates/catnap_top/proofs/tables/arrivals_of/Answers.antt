use Rattle.std.proofs.Common.{refl}
use Rattle.catnap_top.specs.Look.{fits, fails}
use Rattle.catnap_top.proofs.tables.arrivals_of.Goals as goal

pub returns-in-Ok-clause-looks : goal.returns-in-Ok-clause-looks
returns-in-Ok-clause-looks c = fits c.in-Ok.arrivals c.in-Ok.ensures.ok refl

pub returns-in-Err-BadArrivals-clause-looks : goal.returns-in-Err-BadArrivals-clause-looks
returns-in-Err-BadArrivals-clause-looks c =
    let fault = rw c.in-Err-BadArrivals.field-0-is at c.in-Err-BadArrivals.ensures.fault in
    fails (c.in-Err-BadArrivals.row, c.in-Err-BadArrivals.kind) fault refl

pub returns-in-Ok-clause-events : goal.returns-in-Ok-clause-events
returns-in-Ok-clause-events c = c.told_arrivals_are_sound.ensures.events c.args.program.now c.args.trace.now c.args.bytes.now c.in-Ok.arrivals c.bodies-checked.ensures.checked c.in-Ok.ensures.ok
