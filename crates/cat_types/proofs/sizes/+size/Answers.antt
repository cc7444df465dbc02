use Rattle.std.proofs.Common.{ap, arith}
use Rattle.cat_conditions.specs.Plain.{block_of}
use Rattle.cat_conditions.specs.Counts.{block_size}
use Rattle.cat_types.proofs.Adding.{item_next}
use Rattle.cat_types.proofs.sizes.+size.Goals as goal

pub block_size-loop-statement-preserved : goal.block_size-loop-statement-preserved
block_size-loop-statement-preserved t c =
    let next = ap (λ block. block_size (block_of block)) (item_next c.args.block.now c.loop-statement.statement-index c.statement-item.result c.statement-item.is c.loop-statement-test.true) in
    record { same = omega (arith, next, c.loop-statement.invariant.same, c.statement_size.ensures, c.add-sum.ensures); small = omega (arith, c.add-sum.ensures) }

pub statement_size-returns-in-Some : goal.statement_size-returns-in-Some
statement_size-returns-in-Some t c = rw (c.in-If.is, c.plain_law.ensures.actions.branch, ← c.as_slice.ensures, c.in-Some.is, ← c.as_slice-in-Some.ensures) (omega arith)

pub statement_size-returns-in-None : goal.statement_size-returns-in-None
statement_size-returns-in-None t c = rw (c.in-If.is, c.plain_law.ensures.actions.branch, ← c.as_slice.ensures, c.in-None.is) (omega arith)
