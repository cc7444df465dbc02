use Rattle.std.proofs.Common.{ap, arith}
use Rattle.cn_uplink.specs.Wire.{WorldValue}
use Rattle.cn_uplink.proofs.Wires.{world-step}
use Rattle.cn_uplink.proofs.world.World.step.Goals as goal

pub invariant_of-self : goal.invariant_of-self
invariant_of-self c = world-step c.self.inside.wire c.step.new.self c.self.inside.left c.args.step (omega (arith, ap (λ (v : WorldValue). v.left) c.self.view_is)) c.self.invariant c.step.ensures.link c.step.ensures.wire c.step.ensures.room
