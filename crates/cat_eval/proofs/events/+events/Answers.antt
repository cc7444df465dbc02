use Rattle.std.proofs.Common.{Some, sym, ap, ◌∙◌, rules, w32, SFits}
use Rattle.std.specs.Prelude.{slice_get}
use Rattle.std.proofs.lemmas.Int.{to_z-of_z}
use Rattle.std.proofs.lemmas.Option.{slice_get-get_or}
use Rattle.cat_program.specs.Body.{tree_of}
use Rattle.cat_eval.proofs.Handling.{running_starts, running_ready, running_goes, turning_goes}
use Rattle.cat_eval.proofs.events.+events.Goals as goal

pub run_block-loop-stmt-init : goal.run_block-loop-stmt-init
run_block-loop-stmt-init t c =
    let f : SFits w32 c.args.payload = c.ranges.payload in
    simp to_z-of_z
    (running_starts c.blocks_law.ensures c.args.program.now c.args.b c.block-statements.result.now c.args.payload c.args.state.now c.args.outs.now c.requires.block c.block-statements.ensures c.requires.ready)

pub run_block-run_stmt-requires : goal.run_block-run_stmt-requires
run_block-run_stmt-requires t c =
    let ss = c.block-statements.result.now in
    let item = slice_get-get_or ss c.loop-stmt.stmt-index c.stmt-item.result c.loop-stmt-test.true ∙ ap Some (sym c.stmt-item.is) in
    let here = ap (λ l. slice_get l c.loop-stmt.stmt-index) (sym c.block-statements.ensures) ∙ item in
    let lower = c.blocks_law.ensures.lower c.args.program.now.blocks c.args.b c.loop-stmt.stmt-index c.stmt-item.result c.requires.ready.checked.lower here in
    let ready = running_ready c.args.program.now c.args.b ss _ c.args.state.now c.loop-stmt.state c.args.outs.now c.loop-stmt.outs c.loop-stmt.stmt-index c.stmt-item.result item c.loop-stmt.invariant in
    (search rules, (ready, (c.requires.block, lower)))

pub run_block-loop-stmt-preserved : goal.run_block-loop-stmt-preserved
run_block-loop-stmt-preserved t c =
    let f : SFits w32 c.args.payload = c.ranges.payload in
    let ss = c.block-statements.result.now in
    let item = slice_get-get_or ss c.loop-stmt.stmt-index c.stmt-item.result c.loop-stmt-test.true ∙ ap Some (sym c.stmt-item.is) in
    let i = simp to_z-of_z at c.loop-stmt.invariant in
    let v = simp to_z-of_z at c.run_stmt.ensures in
    simp to_z-of_z
    (running_goes c.args.program.now c.args.b ss c.args.payload c.args.state.now c.loop-stmt.state c.args.outs.now c.loop-stmt.outs c.loop-stmt.stmt-index c.stmt-item.result item i c.outputs_law.ensures c.run_stmt.new.state c.run_stmt.new.outs v)

pub run_turns-loop-turn-preserved : goal.run_turns-loop-turn-preserved
run_turns-loop-turn-preserved t c =
    let f : SFits w32 c.args.payload = c.ranges.payload in
    let i = simp to_z-of_z at c.loop-turn.invariant in
    let v = simp to_z-of_z at c.run_block.ensures in
    simp to_z-of_z
    (turning_goes c.args.program.now c.args.count (tree_of c.args.program.now.blocks c.args.body) c.args.payload c.args.state.now c.loop-turn.state c.args.outs.now c.loop-turn.outs c.loop-turn.turn c.loop-turn-test.true i c.outputs_law.ensures c.run_block.new.state c.run_block.new.outs v)
