use Rattle.cn_runtime.proofs.Readied.{prepared}
use Rattle.cn_runtime.proofs.preparing.parts_of.Goals as goal

pub returns-clause-prepared : goal.returns-clause-prepared
returns-clause-prepared c =
    prepared c.args.program.now c.args.device.now c.args.arrivals c.args.forecast.now c.layout_of-layout.result c.in_ok-chosen.chosen c.in_ok-plan.plan c.in_ok-engine.engine
    c.bodies-checked.ensures.checked c.requires c.are_sound.ensures.sound.spaced c.rows-sound.ensures.sound c.in_ok-engine.ensures c.in_ok-chosen.ensures.chosen
    c.in_ok-plan.ensures.plan c.in_ok-plan.ensures.layout
