use Rattle.std.proofs.Common.{◌≡◌, ◌+◌, length}
use Rattle.cat_places.specs.Walk.{opening, unopened}
use Rattle.cat_places.proofs.cursor.Cursor.open.Given as goal

abbrev pub invariant-more : goal.invariant-more
invariant-more l = (length l.initial.self + opening l.self ≡ opening l.initial.self + length l.self) × (unopened l.self ≡ unopened l.initial.self)

abbrev pub decreases-more : goal.decreases-more
decreases-more l = length l.self
