use Rattle.std.proofs.Common.{◌++◌, List, refl, subst}
use Rattle.cn_base.specs.PageSums.{adds_on}
use Rattle.cn_base.specs.PageWords.{AddsTo}
use Rattle.cn_report.specs.Report.{chosen_text, row_head}
use Rattle.cn_report.proofs.Texts.{choice-is}
use Rattle.cn_report.proofs.chosen.add_row.Goals as goal

pub returns-in-Ok-clause-text : goal.returns-in-Ok-clause-text
returns-in-Ok-clause-text g c =
    let program = c.args.program.now in
    let chosen = c.args.chosen.now in
    let head : List _ = row_head c.args.shown c.args.row.now in
    subst (λ text. AddsTo g.K.Sink.written c.args.page.now c.add_chosen.new.page (head ++ text) c.add_chosen.result) (choice-is program chosen c.bodies-checked.ensures.checked)
    (adds_on _ _ _ _ _ _ head (chosen_text program chosen) (head ++ chosen_text program chosen) c.add_chosen.result refl c.in-Ok.ensures.text c.add_chosen.ensures.text)
