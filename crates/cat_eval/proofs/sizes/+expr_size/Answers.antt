use Rattle.std.proofs.Common.{◌∙◌, ◌≤◌, refl, ap, subst, arith}
use Rattle.std.proofs.lemmas.List.{drop_all}
use Rattle.cat_program.specs.declared.syntax.Expr.{Expr}
use Rattle.cat_program.specs.Places.{expr_size}
use Rattle.cat_eval.proofs.SizeRows.{rows_size, chain_size_is}
use Rattle.cat_eval.proofs.sizes.+expr_size.Goals as goal

pub loop-further-init : goal.loop-further-init
loop-further-init t c =
    let whole = chain_size_is c.in-Chain.first c.in-Chain.rest in
    let first = c.expr_size-size.ensures ∙ ap expr_size c.deref-in-Chain.ensures in
    let rest = ap rows_size c.deref-further-items.ensures.value in
    let short = subst (λ (e : Expr). expr_size e ≤ 60000) c.in-Chain.is c.requires in
    (refl, omega (arith, whole, first, rest, short))

pub returns-after-loop-further : goal.returns-after-loop-further
returns-after-loop-further t c =
    let whole = chain_size_is c.in-Chain.first c.in-Chain.rest in
    let first = c.expr_size-size.ensures ∙ ap expr_size c.deref-in-Chain.ensures in
    let rest = ap rows_size c.deref-further-items.ensures.value in
    let own = ap expr_size c.in-Chain.is in
    let none = ap rows_size (drop_all c.loop-further.further-index c.deref-further-items.result.now c.loop-further-test.false) in
    omega (arith, whole, first, rest, own, none, c.loop-further.invariant.0)
