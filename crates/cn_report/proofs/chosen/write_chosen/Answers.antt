use Rattle.std.proofs.Common.{ap, rules}
use Rattle.cn_base.specs.PageSums.{page_closes}
use Rattle.cn_base.specs.PageWords.{held_in}
use Rattle.cn_report.proofs.chosen.write_chosen.Goals as goal

pub returns-in-Ok-clause-text : goal.returns-in-Ok-clause-text
returns-in-Ok-clause-text g c =
    let closed =
    page_closes _ _ _ _ (held_in c.on-page.result) (held_in c.add_rows.new.page) _ c.close.result
    (ap (λ s. g.K.Sink.written s) c.on-page.ensures.sink) c.on-page.ensures.held c.in-Ok.ensures.text c.close.ensures.text in
    search (rules, closed)
