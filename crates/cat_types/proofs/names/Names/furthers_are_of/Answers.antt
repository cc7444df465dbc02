use Rattle.std.proofs.Common.{arith}
use Rattle.cat_types.specs.Sorts.{sorts}
use Rattle.cat_types.proofs.Adding.{are_next, and_true, and_false}
use Rattle.cat_types.proofs.names.Names.furthers_are_of.Goals as goal

pub returns-then-not-further_is_of : goal.returns-then-not-further_is_of
returns-then-not-further_is_of c =
    let next = are_next c.plain_law.ensures.terms (sorts c.args.self.now) c.args.value_type c.args.others.now c.loop-other.other-index c.other-item.result c.other-item.is c.loop-other-test.true in
    grind (arith, next, c.further_is_of.ensures, c.loop-other.invariant, and_false)

pub loop-other-preserved : goal.loop-other-preserved
loop-other-preserved c =
    let next = are_next c.plain_law.ensures.terms (sorts c.args.self.now) c.args.value_type c.args.others.now c.loop-other.other-index c.other-item.result c.other-item.is c.loop-other-test.true in
    grind (arith, next, c.further_is_of.ensures, c.loop-other.invariant, and_true)
