use Rattle.std.proofs.Common.{◌<◌, Some, length, sym, ap, ◌∙◌, arith}
use Rattle.std.specs.Prelude.{slice_get}
use Rattle.std.proofs.lemmas.Option.{slice_get-get_or}
use Rattle.cat_eval.specs.StateValue.{StateValue}
use Rattle.cat_eval.proofs.Room.{frame_room}
use Rattle.cat_eval.proofs.tasks.step_at.Goals as goal

pub push_frame-requires : goal.push_frame-requires
push_frame-requires c =
    omega (arith, frame_room c.args.program.now c.args.frame c.args.state.now.frames c.requires.cursor, ap (λ (s : StateValue). length s.frames) c.assign.ensures)

pub push_frame-requires-in-SetAt : goal.push_frame-requires-in-SetAt
push_frame-requires-in-SetAt c =
    omega (arith, frame_room c.args.program.now c.args.frame c.args.state.now.frames c.requires.cursor, ap (λ (s : StateValue). length s.frames) c.assign_element.ensures)

pub push_frame-requires-in-Out : goal.push_frame-requires-in-Out
push_frame-requires-in-Out c = frame_room c.args.program.now c.args.frame c.args.state.now.frames c.requires.cursor

pub push_frame-requires-in-Post : goal.push_frame-requires-in-Post
push_frame-requires-in-Post c =
    omega (arith, frame_room c.args.program.now c.args.frame c.args.state.now.frames c.requires.cursor, ap (λ (s : StateValue). length s.frames) c.post.ensures)

pub branch-program-requires-clause-here : goal.branch-program-requires-clause-here
branch-program-requires-clause-here c =
    let long = ap length c.block-statements.ensures in
    let within : c.args.frame.place < length c.block-statements.result.now = omega (arith, long, c.requires.within) in
    ap (λ l. slice_get l c.args.frame.place) (sym c.block-statements.ensures)
    ∙ slice_get-get_or c.block-statements.result.now c.args.frame.place c.index-statements-frame.result within
    ∙ ap Some (sym c.index-statements-frame.is ∙ c.in-If.is)

pub turn-requires-clause-here : goal.turn-requires-clause-here
turn-requires-clause-here c =
    let long = ap length c.block-statements.ensures in
    let within : c.args.frame.place < length c.block-statements.result.now = omega (arith, long, c.requires.within) in
    ap (λ l. slice_get l c.args.frame.place) (sym c.block-statements.ensures)
    ∙ slice_get-get_or c.block-statements.result.now c.args.frame.place c.index-statements-frame.result within
    ∙ ap Some (sym c.index-statements-frame.is ∙ c.in-While.is)
