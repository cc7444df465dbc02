use Rattle.std.proofs.Common.{◌∷◌, Some, None, length, refl, sym, subst, ap, ◌∙◌, arith}
use Rattle.cat_program.specs.Checked.{Reads}
use Rattle.cat_program.specs.declared.syntax.Stmt.TheVariants as stmt
use Rattle.cat_eval.specs.StateValue.{StateValue}
use Rattle.cat_eval.specs.Cursor.{first_frame, next_frame}
use Rattle.cat_eval.specs.Steps.{chosen_block}
use Rattle.cat_eval.proofs.Stepping.{loop_fits, loop_is}
use Rattle.cat_eval.proofs.Room.{frame_room, place_small, loop_reads, put_one, put_two}
use Rattle.cat_eval.proofs.tasks.turn.Goals as goal

pub chosen_block-requires : goal.chosen_block-requires
chosen_block-requires c =
    subst (λ l. Reads (length l) c.args.test.now) (sym c.words.ensures) (loop_reads c.args.program.now c.args.state.now c.args.frame c.args.test.now c.args.body c.requires.at c.requires.here)

pub next-requires : goal.next-requires
next-requires c = place_small c.args.program.now c.args.state.now c.args.frame (stmt.While c.args.test.now c.args.body) c.requires.at c.requires.here

pub push_frame-requires : goal.push_frame-requires
push_frame-requires c = frame_room c.args.program.now c.args.frame c.args.state.now.frames c.requires.at.cursor

pub push_frame-requires-in-Some : goal.push_frame-requires-in-Some
push_frame-requires-in-Some c = frame_room c.args.program.now c.args.frame c.args.state.now.frames c.requires.at.cursor

pub push_frame-requires-in-Some-2 : goal.push_frame-requires-in-Some-2
push_frame-requires-in-Some-2 c =
    let chosen = sym c.in-Some.is ∙ c.chosen_block.ensures ∙ ap (λ l. chosen_block c.args.test.now l c.args.body None) c.words.ensures in
    let fits = loop_fits c.blocks_law.ensures c.args.program.now c.args.state.now c.args.state.now c.args.frame c.requires.at c.args.test.now c.args.body c.requires.here (Some c.in-Some.block) chosen in
    omega (arith, frame_room c.args.program.now (first_frame c.in-Some.block) (c.args.frame ∷ c.args.state.now.frames) fits, ap (λ (s : StateValue). length s.frames) c.push_frame-in-Some.ensures)

pub returns-in-None : goal.returns-in-None
returns-in-None c =
    let chosen = sym c.in-None.is ∙ c.chosen_block.ensures ∙ ap (λ l. chosen_block c.args.test.now l c.args.body None) c.words.ensures in
    let old = c.args.state.now in
    let state = put_one old c.push_frame.new.self c.next.result (next_frame c.args.frame) c.push_frame.ensures c.next.ensures in
    loop_is c.blocks_law.ensures c.args.program.now old c.push_frame.new.self c.args.frame c.requires.at c.args.test.now c.args.body c.requires.here None chosen state

pub returns-in-Some : goal.returns-in-Some
returns-in-Some c =
    let chosen = sym c.in-Some.is ∙ c.chosen_block.ensures ∙ ap (λ l. chosen_block c.args.test.now l c.args.body None) c.words.ensures in
    let old = c.args.state.now in
    let state = put_two old c.push_frame-in-Some.new.self c.push_frame-in-Some-2.new.self c.args.frame c.args.frame c.first.result (first_frame c.in-Some.block) c.push_frame-in-Some.ensures refl c.push_frame-in-Some-2.ensures c.first.ensures in
    loop_is c.blocks_law.ensures c.args.program.now old c.push_frame-in-Some-2.new.self c.args.frame c.requires.at c.args.test.now c.args.body c.requires.here (Some c.in-Some.block) chosen state
