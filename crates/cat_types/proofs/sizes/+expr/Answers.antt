use Rattle.std.proofs.Common.{arith}
use Rattle.cat_types.proofs.Adding.{size_next}
use Rattle.cat_types.proofs.sizes.+expr.Goals as goal

pub further_size-loop-other-preserved : goal.further_size-loop-other-preserved
further_size-loop-other-preserved t c =
    let next = size_next c.plain_law.ensures.terms c.args.others.now c.loop-other.other-index c.other-item.result c.other-item.is c.loop-other-test.true in
    record { same = omega (arith, next, c.loop-other.invariant.same, c.size.ensures, c.add.ensures, c.add-sum.ensures); small = omega (arith, c.add-sum.ensures) }
