use Rattle.std.proofs.Common.{ap, arith}
use Rattle.cat_conditions.specs.Plain.{block_of}
use Rattle.cat_conditions.specs.Counts.{versions_size, block_size}
use Rattle.cat_types.proofs.Adding.{item_next}
use Rattle.cat_types.proofs.counts.versions_size.Goals as goal

pub loop-version-preserved : goal.loop-version-preserved
loop-version-preserved c =
    let next = ap versions_size (item_next c.args.versions.now c.loop-version.version-index c.version-item.result c.version-item.is c.loop-version-test.true) in
    let same = ap (λ block. block_size (block_of block)) c.as_slice.ensures in
    record { same = omega (arith, next, same, c.loop-version.invariant.same, c.block_size.ensures, c.add.ensures, c.add-sum.ensures); small = omega (arith, c.add-sum.ensures) }
