use Rattle.std.proofs.Common.{ap, ◌∙◌}
use Rattle.cat_resolve.specs.Form.{chain, operands_of, form}
use Rattle.cat_resolve.proofs.Forms.{chain-is}
use Rattle.cat_resolve.proofs.expression.chained.Goals as goal

pub returns : goal.returns
returns c = chain-is c.in_ok-first.first c.args.rest ∙ ap (λ e. chain (form e) (operands_of c.args.rest.items)) c.in_ok-first.ensures.ok
