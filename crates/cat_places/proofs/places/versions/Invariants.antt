use Rattle.cat_places.specs.Walk.{after_versions, versions_lefts}
use Rattle.cat_places.proofs.Going.{Goes}
use Rattle.cat_places.proofs.places.versions.Given as goal

abbrev pub invariant-loop-version : goal.invariant-loop-version
invariant-loop-version l = Goes after_versions versions_lefts l.initial.cursor l.initial.found.items l.cursor l.found.items l.versions l.version-index
