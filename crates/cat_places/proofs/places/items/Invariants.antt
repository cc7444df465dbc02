use Rattle.std.proofs.Common.{[]}
use Rattle.cat_places.specs.Walk.{items_lefts}
use Rattle.cat_places.proofs.Going.{Goes}
use Rattle.cat_places.proofs.places.items.Given as goal

abbrev pub invariant-loop-item : goal.invariant-loop-item
invariant-loop-item l = Goes (λ xs ws. []) items_lefts l.initial.cursor l.initial.found.items l.cursor l.found.items l.items l.item-index
