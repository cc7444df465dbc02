use Rattle.cat_conditions.specs.Pieces.{items_pieces}
use Rattle.cat_types.proofs.Adding.{Continues}
use Rattle.cat_types.proofs.pieces.add_items.Given as goal

abbrev pub invariant-loop-item : goal.invariant-loop-item
invariant-loop-item l = Continues items_pieces l.initial.found.items l.found.items l.items l.item-index
