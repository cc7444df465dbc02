use Rattle.std.proofs.Common.{Ok, sym, ap}
use Rattle.catnap_top.specs.Object.{compiling, filed}
use Rattle.catnap_top.specs.Reply.{reply_answer}
use Rattle.catnap_top.specs.Look.{goes}
use Rattle.catnap_top.proofs.Looks.{stops_first, passes_on}
use Rattle.catnap_top.proofs.object.prepare_object.Goals as goal

pub returns-in_err-program-clause-looks : goal.returns-in_err-program-clause-looks
returns-in_err-program-clause-looks c =
    passes_on reply_answer (compiling c.args.source.now) c.from_residual.result c.in_err-program.field-0.0 c.from_residual.ensures.1
    (stops_first _ _ c.in_err-program.field-0.0 c.in_err-program.ensures)

pub returns-clause-looks : goal.returns-clause-looks
returns-clause-looks c =
    goes c.in_ok-program.program c.in_ok-program.ensures (ap (λ bytes. Ok (filed bytes)) (sym c.in_ok-file.ensures.spelled))
