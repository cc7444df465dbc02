use Rattle.std.proofs.Common.{map}
use Rattle.cat_conditions.specs.Plain.{further_of, furthers_of}
use Rattle.cat_places.specs.Walk.{after_furthers, furthers_lefts}
use Rattle.cat_places.proofs.Going.{Goes}
use Rattle.cat_places.proofs.places.+expr.Given as goal

abbrev pub invariant-furthers-loop-other : goal.invariant-furthers-loop-other
invariant-furthers-loop-other l =
    Goes (λ xs ws. after_furthers (furthers_of (map further_of xs)) ws) (λ xs ws. furthers_lefts (furthers_of (map further_of xs)) ws) l.initial.cursor l.initial.found.items l.cursor l.found.items l.others l.other-index
