use Rattle.std.proofs.Common.{◌-◌}
use Rattle.cn_uplink.proofs.Finishing.{IsRounding}
use Rattle.cn_uplink.proofs.world.World.finish.Given as goal

abbrev pub invariant-rounds : goal.invariant-rounds
invariant-rounds l = IsRounding l.fn.self.link l.len l.rounds l.self-inside.wire l.self-inside.left

abbrev pub decreases-rounds : goal.decreases-rounds
decreases-rounds l = l.len - l.self-inside.wire.base
