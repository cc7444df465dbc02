use Rattle.std.proofs.Common.{◌≡◌, ◌*◌, Some, sym, ap, ◌∙◌, subst, rules, arith}
use Rattle.std.proofs.lemmas.Option.{slice_get-get_or}
use Rattle.cat_program.specs.Body.{tree_of}
use Rattle.cat_program.specs.Checked.{AllLower, most_outs}
use Rattle.cat_program.proofs.Trees.{lower_at, stmt_lower}
use Rattle.cat_program.proofs.Counting.{counting_starts, counting_short, turns_fit}
use Rattle.cat_program.proofs.outputs.+outputs.Goals as goal

pub block_outs-loop-stmt-init : goal.block_outs-loop-stmt-init
block_outs-loop-stmt-init t c =
    counting_starts c.args.program.now.blocks c.args.b c.block-statements.result.now c.requires.lower c.requires.block c.block-statements.ensures c.requires.short

pub block_outs-stmt_outs-outs-requires : goal.block_outs-stmt_outs-outs-requires
block_outs-stmt_outs-outs-requires t c =
    let blocks = c.args.program.now.blocks in
    let ss = c.block-statements.result.now in
    let item = slice_get-get_or ss c.loop-stmt.stmt-index c.stmt-item.result c.loop-stmt-test.true ∙ ap Some (sym c.stmt-item.is) in
    let names = stmt_lower c.args.b ss c.loop-stmt.stmt-index c.stmt-item.result (subst (AllLower c.args.b) (sym c.block-statements.ensures) (lower_at blocks 0 c.args.b c.args.b (omega arith) c.requires.lower)) item in
    let short = counting_short blocks c.args.b ss c.loop-stmt.outs c.loop-stmt.stmt-index c.stmt-item.result item c.loop-stmt.invariant in
    (search rules, (c.requires.lower, (c.requires.block, (names, short))))

pub stmt_outs-overflow_mul-result : goal.stmt_outs-overflow_mul-result
stmt_outs-overflow_mul-result t c =
    let fit = turns_fit (tree_of c.args.program.now.blocks) c.args.stmt.now c.in-Repeat.count c.in-Repeat.body c.in-Repeat.is c.requires.short in
    let same : c.from.result * c.block_outs-else-count-eq0.result ≡ c.in-Repeat.count * most_outs (tree_of c.args.program.now.blocks c.in-Repeat.body) =
    ap (λ n. n * c.block_outs-else-count-eq0.result) c.from.ensures ∙ ap (λ n. c.in-Repeat.count * n) c.block_outs-else-count-eq0.ensures in
    omega (arith, same, fit)
