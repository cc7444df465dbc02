use Rattle.std.proofs.Common.{map, ap, ◌∙◌}
use Rattle.cat_conditions.specs.Plain.{further_of, furthers_of}
use Rattle.cat_conditions.specs.Pieces.{further_terms}
use Rattle.std.proofs.lemmas.Result.{on_ok_weaker}
use Rattle.cat_types.proofs.Adding.{adds_then, continues_on, item_next, further_next}
use Rattle.cat_types.proofs.pieces.+expr.Goals as goal

pub add_furthers-loop-other-preserved : goal.add_furthers-loop-other-preserved
add_furthers-loop-other-preserved t c = continues_on c.loop-other.invariant c.in_ok-add_expr.ensures
    (ap (λ others. further_terms c.args.in_event (furthers_of (map further_of others))) (item_next c.args.others.now c.loop-other.other-index c.other-item.result c.other-item.is c.loop-other-test.true)
    ∙ further_next c.plain_law.ensures.terms c.args.in_event c.other-item.result _)

pub add_inner-returns-in_ok-add_expr-in-Chain : goal.add_inner-returns-in_ok-add_expr-in-Chain
add_inner-returns-in_ok-add_expr-in-Chain t c =
    rw (c.in-Chain.is, c.plain_law.ensures.terms.chain, ← c.get-in-Chain.ensures, ← c.as_slice.ensures)
    (on_ok_weaker _ (adds_then c.in_ok-add_expr-in-Chain.ensures) c.add_furthers.ensures)

pub add_inner-returns-in_ok-add_expr-in-Compare : goal.add_inner-returns-in_ok-add_expr-in-Compare
add_inner-returns-in_ok-add_expr-in-Compare t c =
    rw (c.in-Compare.is, c.plain_law.ensures.terms.compare, ← c.get-in-Compare.ensures, ← c.get-in-Compare-2.ensures)
    (on_ok_weaker _ (adds_then c.in_ok-add_expr-in-Compare.ensures) c.add_expr-in-Compare-2.ensures)
