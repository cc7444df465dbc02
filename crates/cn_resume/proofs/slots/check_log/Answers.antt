use Rattle.std.proofs.Common.{ℕ, sym, ◌∙◌, subst}
use Rattle.cn_resume.specs.declared.fault.ImageFault.TheVariants.{BadImage}
use Rattle.cn_resume.specs.declared.fault.ImageKind.TheVariants as kind
use Rattle.cn_resume.specs.Stages.{LogFault}
use Rattle.cn_resume.proofs.Looking.{bad_record, bad_count}
use Rattle.cn_resume.proofs.slots.check_log.Goals as goal

pub returns-in-Err-clause-refused : goal.returns-in-Err-clause-refused
returns-in-Err-clause-refused g c =
    bad_record c.args.layout.now c.args.program.now c.args.tick (g.B.Board.state c.args.board.now).image c.args.slot.now c.in-Err.fault c.in-Err.ensures.refused

pub returns-in-Some-clause-refused : goal.returns-in-Some-clause-refused
returns-in-Some-clause-refused g c =
    let l = c.args.layout.now in
    let image = (g.B.Board.state c.args.board.now).image in
    let here = bad_count l c.args.program.now c.args.tick image c.args.slot.now c.as_slice.result.now c.in-Some.event (c.as_slice.ensures.value ∙ c.in-Ok.ensures.entries) c.in-Ok.ensures.good c.in-Some.ensures in
    subst (λ (n : ℕ). LogFault l c.args.program.now c.args.tick image c.args.slot.now (BadImage kind.Done n)) (sym c.from.ensures) here
