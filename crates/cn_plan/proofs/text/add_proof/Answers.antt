use Rattle.std.proofs.Common.{refl}
use Rattle.cn_base.specs.PageSums.{adds_on}
use Rattle.cn_base.specs.PageWords.{held_in}
use Rattle.cn_report.specs.Report.{chosen_text}
use Rattle.cn_plan.specs.Plan.{below_line}
use Rattle.cn_base.specs.TextSums.{cut_behind_held}
use Rattle.cn_plan.proofs.text.add_proof.Goals as goal

pub returns-in-Ok-clause-text : goal.returns-in-Ok-clause-text
returns-in-Ok-clause-text g c = adds_on _ _ _ _ _ _ _ _ _ c.add_below.result refl c.in-Ok.ensures.text c.add_below.ensures.text

pub returns-in-Err-clause-text : goal.returns-in-Err-clause-text
returns-in-Err-clause-text g c =
    cut_behind_held _ _ (held_in c.args.page.now) (chosen_text c.args.program.now c.args.chosen.now) (below_line c.args.below.now) c.in-Err.ensures.text
