use Rattle.std.proofs.Common.{Some, ap, sym, ◌∙◌}
use Rattle.cat_types.proofs.Adding.{chain_first}
use Rattle.cat_types.proofs.types.chain_type.Goals as goal

pub returns-in-Some : goal.returns-in-Some
returns-in-Some c = ap Some c.operator_type.ensures ∙ sym (chain_first c.plain_law.ensures.terms c.args.others.now c.in-Some.other.now c.in-Some.ensures.value)
