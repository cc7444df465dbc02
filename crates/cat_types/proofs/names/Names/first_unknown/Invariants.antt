use Rattle.cat_conditions.specs.Names.{has_unknown_name}
use Rattle.cat_conditions.specs.Offences.{At, NoneOf}
use Rattle.cat_types.specs.Shown.{all_shown}
use Rattle.cat_types.specs.Sorts.{sorts}
use Rattle.cat_types.proofs.names.Names.first_unknown.Given as goal

abbrev pub invariant-loop-place : goal.invariant-loop-place
invariant-loop-place l = NoneOf l.place (At (has_unknown_name (sorts l.self)) (all_shown l.pieces))
