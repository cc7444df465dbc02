use Rattle.std.proofs.Common.{ap, ◌∙◌}
use Rattle.cat_resolve.specs.Form.{operands_of}
use Rattle.cat_resolve.proofs.Forms.{operands-more}
use Rattle.cat_resolve.proofs.expression.add.Goals as goal

pub returns : goal.returns
returns c = ap operands_of c.in_ok-push.ensures.items ∙ operands-more c.args.rest.now.items _
