use Rattle.std.proofs.Common.{ap, Ok}
use Rattle.cat_program.specs.Checked.{body_at}
use Rattle.catnap_top.specs.declared.status.Status.TheVariants.{Done}
use Rattle.catnap_top.specs.Look.{goes}
use Rattle.catnap_top.specs.Run.{run_text, answers, running}
use Rattle.catnap_top.specs.Reply.{reply_answer}
use Rattle.catnap_top.proofs.Looks.{stops_first, passes_on}
use Rattle.catnap_top.proofs.run.prepare_run.Goals as goal

pub returns-in_err-program-clause-looks : goal.returns-in_err-program-clause-looks
returns-in_err-program-clause-looks c =
    passes_on reply_answer (running c.args.steps c.args.source.now) c.from_residual.result c.in_err-program.field-0.0 c.from_residual.ensures.1
    (stops_first _ _ c.in_err-program.field-0.0 c.in_err-program.ensures)

pub returns-clause-looks : goal.returns-clause-looks
returns-clause-looks c =
    let p = c.in_ok-program.program in
    goes p c.in_ok-program.ensures
    (ap (λ s. Ok (record { status = Done; text = run_text (answers (body_at p) c.args.steps s) })) c.in_ok-state.ensures.1)
