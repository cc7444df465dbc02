use Rattle.std.proofs.Common.{refl, length}
use Rattle.cn_base.specs.PageSums.{adds_on}
use Rattle.cn_base.specs.PageWords.{held_in}
use Rattle.cn_base.specs.Texts.{in_turn}
use Rattle.cn_report.specs.Report.{event_line, numbers_line}
use Rattle.cn_base.specs.TextSums.{cut_behind_held}
use Rattle.cn_report.proofs.chosen.add_chosen.Goals as goal

pub returns-in-Ok-clause-text : goal.returns-in-Ok-clause-text
returns-in-Ok-clause-text g c = adds_on _ _ _ _ _ _ _ _ _ c.add_numbers.result refl c.in-Ok.ensures.text c.add_numbers.ensures.text

pub returns-in-Err-clause-text : goal.returns-in-Err-clause-text
returns-in-Err-clause-text g c =
    let program = c.args.program.now in
    let chosen = c.args.chosen.now in
    cut_behind_held _ _ (held_in c.args.page.now) (in_turn (event_line program chosen) (length program.events)) (numbers_line chosen.numbers)
    c.in-Err.ensures.text
