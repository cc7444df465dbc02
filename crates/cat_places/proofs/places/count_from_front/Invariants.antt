use Rattle.std.proofs.Common.{◌≡◌, ◌-◌, ◌++◌, map, take, drop}
use Rattle.cat_places.proofs.places.count_from_front.Given as goal

abbrev pub invariant-loop-left : goal.invariant-loop-left
invariant-loop-left l = l.lefts ≡ map (λ left. l.total - left) (take l.left-index l.initial.lefts) ++ drop l.left-index l.initial.lefts
