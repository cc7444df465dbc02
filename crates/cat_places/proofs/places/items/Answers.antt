use Rattle.std.proofs.Common.{◌∷◌, length, refl, append_assoc}
use Rattle.cat_places.specs.Walk.{item_lefts}
use Rattle.cat_places.proofs.Going.{goes_first, goes_next, goes_found, item_next}
use Rattle.cat_places.proofs.places.items.Goals as goal

pub loop-item-init : goal.loop-item-init
loop-item-init c = goes_first _ _ _ _ _

pub loop-item-preserved : goal.loop-item-preserved
loop-item-preserved c =
    let there = item_next c.args.items.now c.loop-item.item-index c.item-item.result c.item-item.is c.loop-item-test.true in
    goes_next _ _ _ _ _ _ _ _ _ (length c.loop-item.cursor ∷ item_lefts c.item-item.result c.loop-item.cursor) _ c.loop-item.invariant
    (rw (c.in_ok-within.ensures.found, c.in_ok-add.ensures, c.left.ensures, append_assoc) refl)
    refl
    (rw (there, c.in_ok-within.ensures.cursor) refl)

pub returns : goal.returns
returns c = goes_found _ _ _ _ _ _ _ _ c.loop-item.invariant c.loop-item-test.false refl
