use Rattle.std.proofs.Common.{ap}
use Rattle.std.proofs.lemmas.Result.{on_ok_weaker}
use Rattle.cat_conditions.specs.Plain.{block_of}
use Rattle.cat_conditions.specs.Pieces.{block_pieces}
use Rattle.cat_types.proofs.Adding.{adds_none, adds_then, continues_on, item_next}
use Rattle.cat_types.proofs.pieces.+stmt.Goals as goal

pub add_block-loop-statement-preserved : goal.add_block-loop-statement-preserved
add_block-loop-statement-preserved t c = continues_on c.loop-statement.invariant (adds_then c.in_ok-add.ensures c.in_ok-add_inside.ensures)
    (ap (λ block. block_pieces c.args.in_event c.args.room (block_of block))
    (item_next c.args.block.now c.loop-statement.statement-index c.statement-item.result c.statement-item.is c.loop-statement-test.true))

pub add_inside-returns-in_ok-add_expr-in-SetAt : goal.add_inside-returns-in_ok-add_expr-in-SetAt
add_inside-returns-in_ok-add_expr-in-SetAt t c =
    rw (c.in-SetAt.is, c.plain_law.ensures.actions.set_at) (on_ok_weaker _ (adds_then c.in_ok-add_expr-in-SetAt.ensures) c.add_expr-in-SetAt.ensures)

pub add_inside-returns-in_ok-add_expr-in-While : goal.add_inside-returns-in_ok-add_expr-in-While
add_inside-returns-in_ok-add_expr-in-While t c =
    rw (c.in-While.is, c.plain_law.ensures.actions.loop, ← c.as_slice-in-While.ensures)
    (on_ok_weaker _ (adds_then c.in_ok-add_expr-in-While.ensures) c.add_block-in-While.ensures)

pub add_inside-returns-in-Some : goal.add_inside-returns-in-Some
add_inside-returns-in-Some t c =
    rw (c.in-If.is, c.plain_law.ensures.actions.branch, ← c.as_slice.ensures, c.in-Some.is, ← c.as_slice-in-Some.ensures)
    (on_ok_weaker _ (λ more. adds_then c.in_ok-add_expr-in-If.ensures (adds_then c.in_ok-add_block-in-If.ensures more))
    c.add_block-in-Some.ensures)

pub add_inside-returns-in-None : goal.add_inside-returns-in-None
add_inside-returns-in-None t c =
    rw (c.in-If.is, c.plain_law.ensures.actions.branch, ← c.as_slice.ensures, c.in-None.is)
    (adds_then c.in_ok-add_expr-in-If.ensures (adds_then c.in_ok-add_block-in-If.ensures (adds_none _)))
