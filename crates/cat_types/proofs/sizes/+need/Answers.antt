use Rattle.std.proofs.Common.{arith}
use Rattle.cat_types.proofs.Adding.{need_next}
use Rattle.cat_types.proofs.sizes.+need.Goals as goal

pub further_need-loop-other-preserved : goal.further_need-loop-other-preserved
further_need-loop-other-preserved t c =
    let next = need_next c.plain_law.ensures.terms c.args.others.now c.loop-other.other-index c.other-item.result c.other-item.is c.loop-other-test.true in
    record { same = omega (arith, next, c.loop-other.invariant.same, c.need.ensures, c.add.ensures, c.larger-most.ensures); small = omega (arith, c.need.ensures, c.add.ensures, c.larger-most.ensures) }
