use Rattle.cat_resolve.proofs.Lists.{item_next}
use Rattle.cat_resolve.proofs.Built.{built_next}
use Rattle.cat_resolve.proofs.bodies.build_all.Goals as goal

pub loop-one-preserved : goal.loop-one-preserved
loop-one-preserved c =
    built_next _ _ c.loop-one.bodies c.item.new.bodies c.one-item.result _ _ c.args.items.now
    (item_next c.args.items.now c.loop-one.one-index c.one-item.result c.one-item.is c.loop-one-test.true) c.in_ok-item.ensures c.loop-one.invariant
