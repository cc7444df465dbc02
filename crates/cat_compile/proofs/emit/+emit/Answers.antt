use Rattle.std.proofs.Common.{refl, Some, ◌≤◌, sym, ap, ◌∙◌, rules, arith}
use Rattle.std.specs.Prelude.{slice_get}
use Rattle.cat_program.specs.Body.{tree_of}
use Rattle.cat_machine.specs.declared.instr.Instr.TheVariants as i
use Rattle.std.proofs.lemmas.Option.{slice_get-get_or}
use Rattle.cat_compile.proofs.Patch.{patch_when, patch_choice, patch_loop, patch_turns, after_put, after_expr, after_block, after_set}
use Rattle.cat_compile.proofs.Emitting.{emitting_starts, emitting_room, emitting_goes}
use Rattle.cat_compile.proofs.emit.+emit.Goals as goal

pub emit_block-loop-stmt-init : goal.emit_block-loop-stmt-init
emit_block-loop-stmt-init t c = emitting_starts c.blocks_law.ensures c.args.program.now.blocks c.args.b c.block-statements.result.now c.args.code.now.items c.requires.checked.lower c.requires.block c.block-statements.ensures c.requires.room

pub emit_when-emit_block-requires : goal.emit_when-emit_block-requires
emit_when-emit_block-requires t c = (search rules, (c.requires.checked, (c.requires.block, (omega (arith, after_expr c.code_is_laid_out.ensures.sizes _ _ c.args.test.now c.in_ok-emit_expr.ensures, after_put _ _ _ c.in_ok-put.ensures, c.requires.room)))))

pub emit_when-overflow_cast-len : goal.emit_when-overflow_cast-len
emit_when-overflow_cast-len t c =
    let small : c.len.result ≤ 60000 = omega (arith, c.len.ensures ∙ c.emit_block.new.code.ok.0, after_block c.code_is_laid_out.ensures.sizes _ _ (tree_of c.args.program.now.blocks c.args.first) c.in_ok-emit_block.ensures, after_expr c.code_is_laid_out.ensures.sizes _ _ c.args.test.now c.in_ok-emit_expr.ensures, after_put _ _ _ c.in_ok-put.ensures, c.requires.room) in
    search rules

pub emit_when-returns : goal.emit_when-returns
emit_when-returns t c =
    patch_when c.code_is_laid_out.ensures.sizes _ _ _ _ c.args.test.now (tree_of c.args.program.now.blocks c.args.first) _ _ _ c.in_ok-emit_expr.ensures (c.len-tested.ensures ∙ c.emit_expr.new.code.ok.0) c.in_ok-put.ensures c.in_ok-emit_block.ensures (c.len.ensures ∙ c.emit_block.new.code.ok.0)

pub emit_loop-emit_block-requires : goal.emit_loop-emit_block-requires
emit_loop-emit_block-requires t c = (search rules, (c.requires.checked, (c.requires.block, (omega (arith, after_expr c.code_is_laid_out.ensures.sizes _ _ c.args.test.now c.in_ok-emit_expr.ensures, after_put _ _ _ c.in_ok-put.ensures, c.requires.room)))))

pub emit_loop-overflow_cast-len : goal.emit_loop-overflow_cast-len
emit_loop-overflow_cast-len t c =
    let small : c.len.result ≤ 60000 = omega (arith, c.len.ensures ∙ c.put-2.new.code.ok.0, after_put _ _ _ c.in_ok-put-2.ensures, after_block c.code_is_laid_out.ensures.sizes _ _ (tree_of c.args.program.now.blocks c.args.body) c.in_ok-emit_block.ensures, after_expr c.code_is_laid_out.ensures.sizes _ _ c.args.test.now c.in_ok-emit_expr.ensures, after_put _ _ _ c.in_ok-put.ensures, c.requires.room) in
    search rules

pub emit_loop-returns : goal.emit_loop-returns
emit_loop-returns t c =
    patch_loop c.code_is_laid_out.ensures.sizes _ _ _ _ _ c.args.test.now (tree_of c.args.program.now.blocks c.args.body) _ _ _ _ (c.len-start.ensures ∙ c.args.code.now.ok.0) c.in_ok-emit_expr.ensures (c.len-tested.ensures ∙ c.emit_expr.new.code.ok.0) c.in_ok-put.ensures c.in_ok-emit_block.ensures c.in_ok-put-2.ensures (c.len.ensures ∙ c.put-2.new.code.ok.0)

pub emit_turns-overflow_cast-len : goal.emit_turns-overflow_cast-len
emit_turns-overflow_cast-len t c =
    let small : c.len.result ≤ 60000 = omega (arith, c.len.ensures ∙ c.put-2.new.code.ok.0, after_put _ _ _ c.in_ok-put-2.ensures, after_block c.code_is_laid_out.ensures.sizes _ _ (tree_of c.args.program.now.blocks c.args.body) c.in_ok-emit_block.ensures, after_put _ _ _ c.in_ok-put.ensures, after_put _ _ _ c.in_ok-put_count.ensures, c.requires.room) in
    search rules

pub emit_turns-returns : goal.emit_turns-returns
emit_turns-returns t c =
    patch_turns c.code_is_laid_out.ensures.sizes _ _ _ _ _ c.args.count (tree_of c.args.program.now.blocks c.args.body) _ _ _ c.in_ok-put_count.ensures (c.len-turn.ensures ∙ c.put_count.new.code.ok.0) c.in_ok-put.ensures c.in_ok-emit_block.ensures c.in_ok-put-2.ensures (c.len.ensures ∙ c.put-2.new.code.ok.0)

pub emit_choice-emit_block-requires : goal.emit_choice-emit_block-requires
emit_choice-emit_block-requires t c = (search rules, (c.requires.checked, (c.requires.block, (omega (arith, after_expr c.code_is_laid_out.ensures.sizes _ _ c.args.test.now c.in_ok-emit_expr.ensures, after_put _ _ _ c.in_ok-put.ensures, c.requires.room)))))

pub emit_choice-overflow_cast-len : goal.emit_choice-overflow_cast-len
emit_choice-overflow_cast-len t c =
    let small : c.len.result ≤ 60000 = omega (arith, c.len.ensures ∙ c.put-2.new.code.ok.0, after_put _ _ _ c.in_ok-put-2.ensures, after_block c.code_is_laid_out.ensures.sizes _ _ (tree_of c.args.program.now.blocks c.args.first) c.in_ok-emit_block.ensures, after_expr c.code_is_laid_out.ensures.sizes _ _ c.args.test.now c.in_ok-emit_expr.ensures, after_put _ _ _ c.in_ok-put.ensures, c.requires.room) in
    search rules

pub emit_choice-emit_block-requires-2 : goal.emit_choice-emit_block-requires-2
emit_choice-emit_block-requires-2 t c =
    (search rules, (c.requires.checked, (c.requires.other, (omega (arith, after_set c.put-2.new.code.items c.len-tested.result (i.JumpZero c.len.result), after_put _ _ _ c.in_ok-put-2.ensures, after_block c.code_is_laid_out.ensures.sizes _ _ (tree_of c.args.program.now.blocks c.args.first) c.in_ok-emit_block.ensures, after_expr c.code_is_laid_out.ensures.sizes _ _ c.args.test.now c.in_ok-emit_expr.ensures, after_put _ _ _ c.in_ok-put.ensures, c.requires.room)))))

pub emit_choice-overflow_cast-len-2 : goal.emit_choice-overflow_cast-len-2
emit_choice-overflow_cast-len-2 t c =
    let small : c.len-2.result ≤ 60000 = omega (arith, c.len-2.ensures ∙ c.emit_block-2.new.code.ok.0, after_block c.code_is_laid_out.ensures.sizes _ _ (tree_of c.args.program.now.blocks c.args.second) c.in_ok-emit_block-2.ensures, after_set c.put-2.new.code.items c.len-tested.result (i.JumpZero c.len.result), after_put _ _ _ c.in_ok-put-2.ensures, after_block c.code_is_laid_out.ensures.sizes _ _ (tree_of c.args.program.now.blocks c.args.first) c.in_ok-emit_block.ensures, after_expr c.code_is_laid_out.ensures.sizes _ _ c.args.test.now c.in_ok-emit_expr.ensures, after_put _ _ _ c.in_ok-put.ensures, c.requires.room) in
    search rules

pub emit_choice-returns : goal.emit_choice-returns
emit_choice-returns t c =
    patch_choice c.code_is_laid_out.ensures.sizes _ _ _ _ _ _ _ c.args.test.now (tree_of c.args.program.now.blocks c.args.first) (tree_of c.args.program.now.blocks c.args.second) _ _ _ _ _ _ c.in_ok-emit_expr.ensures (c.len-tested.ensures ∙ c.emit_expr.new.code.ok.0) c.in_ok-put.ensures c.in_ok-emit_block.ensures (c.len-first_end.ensures ∙ c.emit_block.new.code.ok.0) c.in_ok-put-2.ensures (c.len.ensures ∙ c.put-2.new.code.ok.0) refl c.in_ok-emit_block-2.ensures (c.len-2.ensures ∙ c.emit_block-2.new.code.ok.0)

-- the statement at the loop's place
pub emit_block-emit_stmt-requires : goal.emit_block-emit_stmt-requires
emit_block-emit_stmt-requires t c =
    let ss = c.block-statements.result.now in
    let item = slice_get-get_or ss c.loop-stmt.stmt-index c.stmt-item.result c.loop-stmt-test.true ∙ ap Some (sym c.stmt-item.is) in
    let here = ap (λ l. slice_get l c.loop-stmt.stmt-index) (sym c.block-statements.ensures) ∙ item in
    let lower = c.blocks_law.ensures.lower c.args.program.now.blocks c.args.b c.loop-stmt.stmt-index c.stmt-item.result c.requires.checked.lower here in
    (search rules, (c.requires.checked, (c.requires.block, (lower, (emitting_room c.args.program.now.blocks c.args.b ss c.args.code.now.items c.loop-stmt.code.items c.loop-stmt.stmt-index c.stmt-item.result item c.loop-stmt.invariant)))))

pub emit_block-loop-stmt-preserved : goal.emit_block-loop-stmt-preserved
emit_block-loop-stmt-preserved t c =
    let ss = c.block-statements.result.now in
    let item = slice_get-get_or ss c.loop-stmt.stmt-index c.stmt-item.result c.loop-stmt-test.true ∙ ap Some (sym c.stmt-item.is) in
    emitting_goes c.code_is_laid_out.ensures.sizes c.args.program.now.blocks c.args.b ss c.args.code.now.items c.loop-stmt.code.items c.emit_stmt.new.code.items c.loop-stmt.stmt-index c.stmt-item.result item c.loop-stmt.invariant c.in_ok-emit_stmt.ensures
