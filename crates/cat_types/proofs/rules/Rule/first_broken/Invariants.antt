use Rattle.cat_conditions.specs.Offences.{At, NoneOf}
use Rattle.cat_types.specs.Shown.{all_shown}
use Rattle.cat_types.specs.Rules.{is_broken}
use Rattle.cat_types.proofs.rules.Rule.first_broken.Given as goal

abbrev pub invariant-loop-place : goal.invariant-loop-place
invariant-loop-place l = NoneOf l.place (At (is_broken l.self) (all_shown l.pieces))
