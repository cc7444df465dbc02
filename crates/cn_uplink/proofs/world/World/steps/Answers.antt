use Rattle.std.proofs.Common.{arith}
use Rattle.cn_uplink.proofs.Courses.{world-more, world-none}
use Rattle.cn_uplink.proofs.world.World.steps.Goals as goal

pub loop-row-init : goal.loop-row-init
loop-row-init c = world-none c.args.self.now

pub loop-row-preserved : goal.loop-row-preserved
loop-row-preserved c =
    world-more c.args.self.now c.loop-row.self c.step.new.self c.args.links.now c.loop-row.row c.at.result c.loop-row.invariant (omega arith) c.at.ensures c.step.ensures.step
