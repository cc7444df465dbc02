use Rattle.std.proofs.Common.{List, ap, subst, ◌∙◌}
use Rattle.std.specs.Prelude.{MatchResult}
use Rattle.cat_conditions.specs.Pieces.{Piece}
use Rattle.cat_conditions.specs.Conditions.{all_conditions, AllHold, IsFault}
use Rattle.cat_types.specs.Shown.{all_shown}
use Rattle.cat_types.proofs.checks.verdict.Goals as goal

pub returns-in-Ok : goal.returns-in-Ok
returns-in-Ok c = subst (λ (ps : List Piece). MatchResult c.check_all.result (λ _. AllHold all_conditions ps) (λ fault. IsFault ps fault)) (ap all_shown c.as_slice.ensures.value ∙ c.in-Ok.ensures) c.check_all.ensures
