use Rattle.std.proofs.Common.{Some, sym, ap, ◌∙◌, rules}
use Rattle.std.specs.Prelude.{slice_get}
use Rattle.std.proofs.lemmas.Option.{slice_get-get_or}
use Rattle.cat_eval.proofs.Sizing.{sizing_starts, sizing_short}
use Rattle.cat_eval.proofs.sizes.+sizes.Goals as goal

pub block_size-loop-stmt-init : goal.block_size-loop-stmt-init
block_size-loop-stmt-init t c =
    sizing_starts c.blocks_law.ensures c.args.program.now.blocks c.args.b c.block-statements.result.now c.requires.lower c.requires.block c.block-statements.ensures c.requires.short

pub block_size-stmt_size-size-requires : goal.block_size-stmt_size-size-requires
block_size-stmt_size-size-requires t c =
    let blocks = c.args.program.now.blocks in
    let ss = c.block-statements.result.now in
    let item = slice_get-get_or ss c.loop-stmt.stmt-index c.stmt-item.result c.loop-stmt-test.true ∙ ap Some (sym c.stmt-item.is) in
    let here = ap (λ l. slice_get l c.loop-stmt.stmt-index) (sym c.block-statements.ensures) ∙ item in
    let names = c.blocks_law.ensures.lower blocks c.args.b c.loop-stmt.stmt-index c.stmt-item.result c.requires.lower here in
    let short = sizing_short blocks c.args.b ss c.loop-stmt.size c.loop-stmt.stmt-index c.stmt-item.result item c.loop-stmt.invariant in
    (search rules, (c.requires.lower, (c.requires.block, (names, short))))
