use Rattle.std.proofs.Common.{◌≡◌, drop}
use Rattle.cat_resolve.specs.Form.{join, operands_of}
use Rattle.cat_resolve.specs.Meanings.{meanings}
use Rattle.cat_resolve.proofs.Terms.{all_become}
use Rattle.cat_resolve.proofs.expression.+expr.Given as goal

abbrev pub invariant-operands-loop-other : goal.invariant-operands-loop-other
invariant-operands-loop-other l = join (operands_of l.rest.items) (all_become (meanings l.names) (drop l.other-index l.source)) ≡ all_become (meanings l.names) l.source
