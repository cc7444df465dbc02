use Rattle.std.proofs.Common.{◌∙◌, subst}
use Rattle.cn_base.specs.PageWords.{AddsTo}
use Rattle.cn_report.proofs.Lines.{numbers_is}
use Rattle.cn_report.proofs.chosen.add_numbers.Goals as goal

pub returns-clause-text : goal.returns-clause-text
returns-clause-text g c =
    subst (λ text. AddsTo g.K.Sink.written c.args.page.now c.line.new.self text c.line.result)
    (numbers_is c.args.numbers
    c.as_bytes.result.now c.as_bytes-2.result.now c.as_bytes-3.result.now c.as_bytes-4.result.now c.as_bytes-5.result.now c.as_bytes-6.result.now
    (c.as_bytes.ensures.value ∙ c.format.ensures.text)
    (c.as_bytes-2.ensures.value ∙ c.format-2.ensures.text)
    (c.as_bytes-3.ensures.value ∙ c.format-3.ensures.text)
    (c.as_bytes-4.ensures.value ∙ c.format-4.ensures.text)
    (c.as_bytes-5.ensures.value ∙ c.format-5.ensures.text)
    (c.as_bytes-6.ensures.value ∙ c.format-6.ensures.text))
    c.line.ensures.text
