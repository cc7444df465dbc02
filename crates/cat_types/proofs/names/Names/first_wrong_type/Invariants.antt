use Rattle.cat_conditions.specs.Types.{has_wrong_type}
use Rattle.cat_conditions.specs.Offences.{At, NoneOf}
use Rattle.cat_types.specs.Shown.{all_shown}
use Rattle.cat_types.specs.Sorts.{sorts}
use Rattle.cat_types.proofs.names.Names.first_wrong_type.Given as goal

abbrev pub invariant-loop-place : goal.invariant-loop-place
invariant-loop-place l = NoneOf l.place (At (has_wrong_type (sorts l.self)) (all_shown l.pieces))
