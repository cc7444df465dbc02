use Rattle.std.proofs.Common.{refl}
use Rattle.catnap_top.specs.Listed.{listing}
use Rattle.catnap_top.specs.Reply.{reply_answer}
use Rattle.catnap_top.specs.Look.{goes}
use Rattle.catnap_top.proofs.Looks.{stops_first, passes_on}
use Rattle.catnap_top.proofs.list.prepare_list.Goals as goal

pub returns-in_err-program-clause-looks : goal.returns-in_err-program-clause-looks
returns-in_err-program-clause-looks c =
    passes_on reply_answer (listing c.args.source.now) c.from_residual.result c.in_err-program.field-0.0 c.from_residual.ensures.1
    (stops_first _ _ c.in_err-program.field-0.0 c.in_err-program.ensures)

pub returns-clause-looks : goal.returns-clause-looks
returns-clause-looks c =
    goes c.in_ok-program.program c.in_ok-program.ensures refl
