use Rattle.cat_conditions.specs.Pieces.{versions_pieces}
use Rattle.cat_types.proofs.Adding.{Continues}
use Rattle.cat_types.proofs.pieces.add_versions.Given as goal

abbrev pub invariant-loop-version : goal.invariant-loop-version
invariant-loop-version l = Continues versions_pieces l.initial.found.items l.found.items l.versions l.version-index
