use Rattle.cat_conditions.specs.Offences.{NoneOf}
use Rattle.cat_conditions.specs.Conditions.{DegradesTooOften}
use Rattle.cat_types.specs.Shown.{all_shown}
use Rattle.cat_types.proofs.degrade.first_too_often.Given as goal

abbrev pub invariant-loop-place : goal.invariant-loop-place
invariant-loop-place l = NoneOf l.place (DegradesTooOften (all_shown l.pieces))
