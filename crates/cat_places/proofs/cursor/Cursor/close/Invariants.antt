use Rattle.std.proofs.Common.{◌≡◌, length}
use Rattle.cat_places.specs.Walk.{still_open, closed}
use Rattle.cat_places.proofs.cursor.Cursor.close.Given as goal

abbrev pub invariant-more : goal.invariant-more
invariant-more l = (still_open l.open l.self ≡ still_open l.fn.count l.initial.self) × (closed l.open l.self ≡ closed l.fn.count l.initial.self)

abbrev pub decreases-more : goal.decreases-more
decreases-more l = length l.self
