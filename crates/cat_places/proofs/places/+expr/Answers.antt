use Rattle.std.proofs.Common.{refl, ◌∙◌, append_assoc}
use Rattle.cat_conditions.specs.Plain.{term_of}
use Rattle.cat_places.specs.Walk.{lefts}
use Rattle.cat_places.proofs.Going.{goes_first, goes_next, goes_left, goes_found, item_next, set_first}
use Rattle.cat_places.proofs.places.+expr.Goals as goal

pub bare-returns-in_ok-whole-in-Element-clause-open : goal.bare-returns-in_ok-whole-in-Element-clause-open
bare-returns-in_ok-whole-in-Element-clause-open t c = rw (c.in-Element.is, c.plain_law.ensures.terms.element) c.open-open.ensures.count

pub bare-returns-in_ok-whole-in-Element-clause-cursor : goal.bare-returns-in_ok-whole-in-Element-clause-cursor
bare-returns-in_ok-whole-in-Element-clause-cursor t c =
    rw (c.skip-in-Element.ensures, c.in_ok-whole-in-Element.ensures.cursor, c.skip.ensures, c.open-open.ensures.left, c.in-Element.is, c.plain_law.ensures.terms.element, ← c.get.ensures) refl

pub bare-returns-in_ok-whole-in-Element-clause-found : goal.bare-returns-in_ok-whole-in-Element-clause-found
bare-returns-in_ok-whole-in-Element-clause-found t c =
    rw (c.in_ok-whole-in-Element.ensures.found, c.in_ok-add-in-Element.ensures, c.skip.ensures, c.left.ensures, c.open-open.ensures.left, c.in-Element.is, c.plain_law.ensures.terms.element, ← c.get.ensures, append_assoc) refl

pub bare-returns-in_ok-whole-in-Signed-clause-open : goal.bare-returns-in_ok-whole-in-Signed-clause-open
bare-returns-in_ok-whole-in-Signed-clause-open t c = rw (c.in-Signed.is, c.plain_law.ensures.terms.signed) c.open-open-in-Signed.ensures.count

pub bare-returns-in_ok-whole-in-Signed-clause-cursor : goal.bare-returns-in_ok-whole-in-Signed-clause-cursor
bare-returns-in_ok-whole-in-Signed-clause-cursor t c =
    rw (c.in_ok-whole-in-Signed.ensures.cursor, c.skip-in-Signed.ensures, c.open-open-in-Signed.ensures.left, c.in-Signed.is, c.plain_law.ensures.terms.signed, ← c.get-in-Signed.ensures) refl

pub bare-returns-in_ok-whole-in-Signed-clause-found : goal.bare-returns-in_ok-whole-in-Signed-clause-found
bare-returns-in_ok-whole-in-Signed-clause-found t c =
    rw (c.in_ok-whole-in-Signed.ensures.found, c.in_ok-add-in-Signed.ensures, c.skip-in-Signed.ensures, c.left-in-Signed.ensures, c.open-open-in-Signed.ensures.left, c.in-Signed.is, c.plain_law.ensures.terms.signed, ← c.get-in-Signed.ensures, append_assoc) refl

pub bare-returns-in_ok-furthers-in-Chain-clause-open : goal.bare-returns-in_ok-furthers-in-Chain-clause-open
bare-returns-in_ok-furthers-in-Chain-clause-open t c = rw (c.in-Chain.is, c.plain_law.ensures.terms.chain, ← c.get-in-Chain.ensures) c.in_ok-open-in-Chain.ensures.open

pub bare-returns-in_ok-furthers-in-Chain-clause-cursor : goal.bare-returns-in_ok-furthers-in-Chain-clause-cursor
bare-returns-in_ok-furthers-in-Chain-clause-cursor t c =
    rw (c.in_ok-furthers-in-Chain.ensures.cursor, c.in_ok-open-in-Chain.ensures.cursor, c.in-Chain.is, c.plain_law.ensures.terms.chain, ← c.get-in-Chain.ensures, ← c.as_slice.ensures) refl

pub bare-returns-in_ok-furthers-in-Chain-clause-found : goal.bare-returns-in_ok-furthers-in-Chain-clause-found
bare-returns-in_ok-furthers-in-Chain-clause-found t c =
    rw (c.in_ok-furthers-in-Chain.ensures.found, c.in_ok-open-in-Chain.ensures.found, c.in_ok-open-in-Chain.ensures.cursor, c.in-Chain.is, c.plain_law.ensures.terms.chain, ← c.get-in-Chain.ensures, ← c.as_slice.ensures, append_assoc) refl

pub bare-returns-in_ok-whole-in-Compare-clause-open : goal.bare-returns-in_ok-whole-in-Compare-clause-open
bare-returns-in_ok-whole-in-Compare-clause-open t c = rw (c.in-Compare.is, c.plain_law.ensures.terms.compare, ← c.get-in-Compare.ensures) c.in_ok-open-in-Compare.ensures.open

pub bare-returns-in_ok-whole-in-Compare-clause-cursor : goal.bare-returns-in_ok-whole-in-Compare-clause-cursor
bare-returns-in_ok-whole-in-Compare-clause-cursor t c =
    rw (c.in_ok-whole-in-Compare.ensures.cursor, c.skip-in-Compare.ensures, c.in_ok-open-in-Compare.ensures.cursor, c.in-Compare.is, c.plain_law.ensures.terms.compare, ← c.get-in-Compare.ensures, ← c.get-in-Compare-2.ensures) refl

pub bare-returns-in_ok-whole-in-Compare-clause-found : goal.bare-returns-in_ok-whole-in-Compare-clause-found
bare-returns-in_ok-whole-in-Compare-clause-found t c =
    rw (c.in_ok-whole-in-Compare.ensures.found, c.in_ok-open-in-Compare.ensures.found, c.skip-in-Compare.ensures, c.in_ok-open-in-Compare.ensures.cursor, c.in-Compare.is, c.plain_law.ensures.terms.compare, ← c.get-in-Compare.ensures, ← c.get-in-Compare-2.ensures, append_assoc) refl

pub first_operand-returns-clause-found : goal.first_operand-returns-clause-found
first_operand-returns-clause-found t c =
    rw (c.in_ok-open.ensures.found, c.in_ok-add.ensures, c.len-at.ensures ∙ c.args.found.now.ok.0, c.saturating_sub.ensures, c.close-open.ensures.open, c.in_ok-open.ensures.open, c.in_ok-open.ensures.cursor, c.left-left.ensures)
    (set_first c.args.found.now.items (lefts (term_of c.args.first.now) c.args.cursor.now) _ _)

pub furthers-loop-other-init : goal.furthers-loop-other-init
furthers-loop-other-init t c = goes_first _ _ _ _ _

pub furthers-loop-other-preserved : goal.furthers-loop-other-preserved
furthers-loop-other-preserved t c =
    let there = item_next c.args.others.now c.loop-other.other-index c.other-item.result c.other-item.is c.loop-other-test.true in
    goes_next _ _ _ _ _ _ _ _ _ (lefts (term_of c.other-item.result.operand) c.skip.new.self) _ c.loop-other.invariant c.in_ok-whole.ensures.found
    (rw (there, c.plain_law.ensures.terms.further, c.in_ok-whole.ensures.cursor, c.skip.ensures) refl)
    (rw (there, c.plain_law.ensures.terms.further, c.in_ok-whole.ensures.cursor, c.skip.ensures) refl)

pub furthers-returns-clause-cursor : goal.furthers-returns-clause-cursor
furthers-returns-clause-cursor t c = goes_left _ _ _ _ _ _ _ _ c.loop-other.invariant c.loop-other-test.false refl

pub furthers-returns-clause-found : goal.furthers-returns-clause-found
furthers-returns-clause-found t c = goes_found _ _ _ _ _ _ _ _ c.loop-other.invariant c.loop-other-test.false refl
