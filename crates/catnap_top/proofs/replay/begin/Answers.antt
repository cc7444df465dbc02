use Rattle.std.proofs.Common.{◌≡◌, arith, length}
use Rattle.nv_memory.specs.Layout.{size_of}
use Rattle.catnap_top.proofs.Living.{fresh_size}
use Rattle.catnap_top.proofs.replay.begin.Goals as goal

pub new-requires : goal.new-requires
new-requires c =
    let p = c.args.prepared.now in
    let size : length c.in_ok-image.image.items ≡ size_of p.plan.layout =
    fresh_size p.program p.plan.layout c.writes_are_local.ensures (c.parts_are_apart.ensures p.plan.layout) (c.slots_are_read_again.ensures.size p.plan.layout) c.in_ok-image.image.items c.in_ok-image.ensures in
    omega (arith, size, c.size-size.ensures.value, c.size-size.ensures.most)
