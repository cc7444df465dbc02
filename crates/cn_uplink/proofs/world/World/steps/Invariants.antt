use Rattle.std.proofs.Common.{◌≡◌, ◌-◌, take}
use Rattle.cn_uplink.specs.Link.{course}
use Rattle.cn_uplink.proofs.world.World.steps.Given as goal

abbrev pub invariant-loop-row : goal.invariant-loop-row
invariant-loop-row l = l.self ≡ record { link = course (take l.row l.links) l.fn.self.link; left = l.fn.self.left - l.row }
