use Rattle.std.proofs.Common.{length, subst}
use mathlib.Core.Path.{fun_ext}
use Rattle.cat_conditions.specs.Names.{has_unknown_name}
use Rattle.cat_conditions.specs.Names.{Sorts}
use Rattle.cat_conditions.specs.Offences.{At, Finds}
use Rattle.cat_types.specs.Shown.{all_shown}
use Rattle.cat_types.proofs.checks.unknown.Goals as goal

pub returns : goal.returns
returns c = subst (λ (sorts : Sorts). Finds (length c.args.pieces.now) (At (has_unknown_name sorts) (all_shown c.args.pieces.now)) c.first_unknown.result) (fun_ext c.requires.are) c.first_unknown.ensures
