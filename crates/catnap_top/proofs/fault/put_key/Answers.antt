use Rattle.std.proofs.Common.{[], ◌∷◌, ◌∙◌, subst}
use Rattle.std.specs.Prelude.{codes}
use Rattle.cn_base.specs.Writing.{Writes}
use Rattle.catnap_top.specs.Answer.{line}
use Rattle.catnap_top.proofs.fault.put_key.Goals as goal

pub returns-clause-text : goal.returns-clause-text
returns-clause-text g c =
    subst (λ t. Writes (g.K.Sink.written c.args.sink.now) (g.K.Sink.written c.put_line.new.sink)
    (line (codes "fault device " ∷ c.args.kind.now ∷ codes " " ∷ t ∷ codes "\n" ∷ [])) c.put_line.result)
    (c.as_bytes.ensures.value ∙ c.text.ensures) c.put_line.ensures.text
