use Rattle.std.proofs.Common.{◌++◌, sym, ap, ◌∙◌, append_assoc, append-nil}
use Rattle.std.proofs.lemmas.List.{drop_all}
use Rattle.cat_machine.specs.Code.{expr_code}
use Rattle.cat_compile.proofs.Rows.{rows_code, chain_is}
use Rattle.cat_compile.proofs.expr.+emit_expr.Goals as goal

pub returns-after-loop-further : goal.returns-after-loop-further
returns-after-loop-further t c =
    let items = c.deref-further-items.result.now in
    let done = ap (λ l. c.loop-further.code.items ++ rows_code l) (drop_all c.loop-further.further-index items c.loop-further-test.false) in
    sym (append-nil c.loop-further.code.items) ∙ sym done ∙ c.loop-further.invariant
    ∙ ap (λ x. x ++ rows_code items) c.in_ok-emit_expr-in-Chain.ensures
    ∙ append_assoc c.args.code.now.items (expr_code c.deref-in-Chain.result.now) (rows_code items)
    ∙ ap (λ e. c.args.code.now.items ++ (expr_code e ++ rows_code items)) c.deref-in-Chain.ensures
    ∙ ap (λ l. c.args.code.now.items ++ (expr_code c.in-Chain.first.value ++ rows_code l)) c.deref-further-items.ensures.value
    ∙ ap (λ x. c.args.code.now.items ++ x) (sym (chain_is c.in-Chain.first c.in-Chain.rest))
    ∙ ap (λ e. c.args.code.now.items ++ expr_code e) (sym c.in-Chain.is)
