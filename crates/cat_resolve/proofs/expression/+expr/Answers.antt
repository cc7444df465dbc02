use Rattle.std.proofs.Common.{ap, sym, ◌∙◌, drop, ◌+◌}
use Rattle.std.proofs.lemmas.List.{drop_all}
use Rattle.cat_resolve.specs.Form.{join, operands_of, form}
use Rattle.cat_resolve.specs.Meanings.{meanings}
use Rattle.cat_resolve.proofs.Forms.{join-none, join-with, forms-to}
use Rattle.cat_resolve.proofs.Lists.{item_next}
use Rattle.cat_resolve.proofs.Terms.{all_become, at-number, at-truth, at-payload, at-name, at-element, at-signed, at-chain, at-compare, at-further}
use Rattle.cat_resolve.proofs.expression.+expr.Goals as goal

pub expression-returns-in-Number : goal.expression-returns-in-Number
expression-returns-in-Number t c = c.number.ensures ∙ at-number c.plain_law.ensures.terms _ _ _ c.in-Number.is

pub expression-returns-in-Truth : goal.expression-returns-in-Truth
expression-returns-in-Truth t c = c.truth.ensures ∙ at-truth c.plain_law.ensures.terms _ _ _ c.in-Truth.is

pub expression-returns-in-Payload : goal.expression-returns-in-Payload
expression-returns-in-Payload t c = at-payload c.plain_law.ensures.terms _ _ c.in-Payload.is

pub expression-returns-in-Name : goal.expression-returns-in-Name
expression-returns-in-Name t c = c.variable.ensures ∙ at-name c.plain_law.ensures.terms (meanings c.args.names.now) _ _ _ c.in-Name.is c.as_str.ensures

pub expression-returns-in_ok-index-in-Element : goal.expression-returns-in_ok-index-in-Element
expression-returns-in_ok-index-in-Element t c =
    forms-to _ _ _ (at-element c.plain_law.ensures.terms (meanings c.args.names.now) _ _ _ _ _ _ c.in-Element.is c.as_str-in-Element.ensures c.get.ensures c.in_ok-index-in-Element.ensures) c.element.ensures

pub expression-returns-in_ok-operand-in-Signed : goal.expression-returns-in_ok-operand-in-Signed
expression-returns-in_ok-operand-in-Signed t c =
    forms-to _ _ _ (at-signed c.plain_law.ensures.terms (meanings c.args.names.now) _ _ _ _ _ _ c.in-Signed.is c.sign.ensures c.get-in-Signed.ensures c.in_ok-operand-in-Signed.ensures) c.signed.ensures

pub expression-returns-in_ok-rest-in-Chain : goal.expression-returns-in_ok-rest-in-Chain
expression-returns-in_ok-rest-in-Chain t c =
    forms-to _ _ _ (at-chain c.plain_law.ensures.terms (meanings c.args.names.now) _ _ _ _ _ _ _ c.in-Chain.is c.get-in-Chain.ensures c.as_slice.ensures c.in_ok-first-in-Chain.ensures c.in_ok-rest-in-Chain.ensures) c.chained.ensures

pub expression-returns-in_ok-second-in-Compare : goal.expression-returns-in_ok-second-in-Compare
expression-returns-in_ok-second-in-Compare t c =
    forms-to _ _ _ (at-compare c.plain_law.ensures.terms (meanings c.args.names.now) _ _ _ _ _ _ _ _ _ c.in-Compare.is c.comparison.ensures c.get-in-Compare.ensures c.get-in-Compare-2.ensures c.in_ok-first-in-Compare.ensures c.in_ok-second-in-Compare.ensures) c.compared.ensures

pub operands-loop-other-preserved : goal.operands-loop-other-preserved
operands-loop-other-preserved t c =
    let n = meanings c.args.names.now in
    let left = drop (c.loop-other.other-index + 1) c.args.source.now in
    ap (λ z. join z (all_become n left)) c.in_ok-add.ensures
    ∙ join-with (operands_of c.loop-other.rest.items) (all_become n left) c.operator.result (form c.in_ok-operand.operand)
    ∙ ap (join (operands_of c.loop-other.rest.items)) (at-further c.plain_law.ensures.terms n c.other-item.result left _ _ c.operator.ensures c.in_ok-operand.ensures
    ∙ ap (all_become n) (sym (item_next c.args.source.now c.loop-other.other-index c.other-item.result c.other-item.is c.loop-other-test.true)))
    ∙ c.loop-other.invariant

pub operands-returns : goal.operands-returns
operands-returns t c =
    sym (join-none (operands_of c.loop-other.rest.items))
    ∙ ap (λ l. join (operands_of c.loop-other.rest.items) (all_become (meanings c.args.names.now) l)) (sym (drop_all c.loop-other.other-index c.args.source.now c.loop-other-test.false))
    ∙ c.loop-other.invariant
