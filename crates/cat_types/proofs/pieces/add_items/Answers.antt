use Rattle.std.proofs.Common.{ap}
use Rattle.cat_conditions.specs.Pieces.{items_pieces}
use Rattle.cat_types.proofs.Adding.{adds_then, continues_on, item_next}
use Rattle.cat_types.proofs.pieces.add_items.Goals as goal

pub loop-item-preserved : goal.loop-item-preserved
loop-item-preserved c = continues_on c.loop-item.invariant (adds_then c.in_ok-add.ensures c.in_ok-add_item.ensures)
    (ap items_pieces (item_next c.args.items.now c.loop-item.item-index c.item-item.result c.item-item.is c.loop-item-test.true))
