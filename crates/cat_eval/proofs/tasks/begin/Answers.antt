use Rattle.std.proofs.Common.{ap, ◌∙◌}
use Rattle.std.specs.Prelude.{slice_index}
use Rattle.cat_program.specs.Meaning.{lowered}
use Rattle.cat_program.specs.declared.syntax.Stepped.TheVariants.{Quiet}
use Rattle.cat_eval.specs.Cursor.{first_frame}
use Rattle.cat_eval.proofs.Beginning.{begins, steps_fit}
use Rattle.cat_eval.proofs.Room.{begun}
use Rattle.cat_eval.proofs.tasks.begin.Goals as goal

pub returns-clause-step : goal.returns-clause-step
returns-clause-step c =
    let p = c.args.program.now in
    let old = c.args.state.now in
    let frame = c.first.ensures ∙ ap first_frame c.body-block.ensures.body in
    let state = begun old c.lower.new.self c.set_running.new.self c.push_frame.new.self (lowered old.posts c.args.t) c.first.result (first_frame (slice_index p.tasks c.args.t)) c.lower.ensures c.set_running.ensures frame c.push_frame.ensures in
    begins p old c.requires.fits c.requires.idle c.blocks_law.ensures (c.parts_law.ensures p c.requires.fits.checked) c.args.t c.push_frame.new.self c.requires.first state

pub returns-clause-fits : goal.returns-clause-fits
returns-clause-fits c =
    let p = c.args.program.now in
    let old = c.args.state.now in
    let frame = c.first.ensures ∙ ap first_frame c.body-block.ensures.body in
    let state = begun old c.lower.new.self c.set_running.new.self c.push_frame.new.self (lowered old.posts c.args.t) c.first.result (first_frame (slice_index p.tasks c.args.t)) c.lower.ensures c.set_running.ensures frame c.push_frame.ensures in
    steps_fit p old Quiet c.push_frame.new.self c.requires.fits (begins p old c.requires.fits c.requires.idle c.blocks_law.ensures (c.parts_law.ensures p c.requires.fits.checked) c.args.t c.push_frame.new.self c.requires.first state)
