use Rattle.std.proofs.Common.{length, subst}
use mathlib.Core.Path.{fun_ext}
use Rattle.cat_conditions.specs.Types.{has_wrong_type}
use Rattle.cat_conditions.specs.Names.{Sorts}
use Rattle.cat_conditions.specs.Offences.{At, Finds}
use Rattle.cat_types.specs.Shown.{all_shown}
use Rattle.cat_types.proofs.checks.wrong_type.Goals as goal

pub returns : goal.returns
returns c = subst (λ (sorts : Sorts). Finds (length c.args.pieces.now) (At (has_wrong_type sorts) (all_shown c.args.pieces.now)) c.first_wrong_type.result) (fun_ext c.requires.are) c.first_wrong_type.ensures
