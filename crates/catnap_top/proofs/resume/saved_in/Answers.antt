use Rattle.std.proofs.Common.{refl}
use Rattle.catnap_top.specs.Look.{fits, fails}
use Rattle.catnap_top.specs.Resumed.{start_of}
use Rattle.catnap_top.proofs.resume.saved_in.Goals as goal

pub returns-in-Ok : goal.returns-in-Ok
returns-in-Ok c =
    let l = c.args.prepared.now.plan.layout in
    let fit = rw (c.as_slice.ensures, c.arrivals.ensures, c.life-life.ensures.value) at c.in-Ok.ensures.fit l c.requires.layout in
    let taken = c.in-Ok.ensures.taken in
    fits (start_of c.in-Ok.saved)
    (record { one = c.args.chosen.now; alone = c.requires.alone; l = l; layout = c.requires.layout; verdict = (fit, λ i. record { tick = taken.0 i; stored = taken.1 i; image = taken.2 i }) }) refl

pub returns-in-Err-BadImage : goal.returns-in-Err-BadImage
returns-in-Err-BadImage c =
    let l = c.args.prepared.now.plan.layout in
    let refused = rw (c.in-Err-BadImage.field-0-is, c.as_slice.ensures, c.arrivals.ensures, c.life-life.ensures.value) at c.in-Err-BadImage.ensures.refused l c.requires.layout in
    fails (record { kind = c.in-Err-BadImage.kind; at = c.in-Err-BadImage.at }) (record { one = c.args.chosen.now; alone = c.requires.alone; l = l; layout = c.requires.layout; verdict = refused }) refl
