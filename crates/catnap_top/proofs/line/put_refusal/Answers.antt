use Rattle.std.proofs.Common.{[], ◌∷◌, ◌∙◌, subst}
use Rattle.std.proofs.lemmas.Int.{to_z-of_z}
use Rattle.std.specs.Int.{w128}
use Rattle.std.specs.Prelude.{codes}
use Rattle.std.specs.Fmt.{signed_decimal}
use Rattle.cn_base.specs.Writing.{Writes}
use Rattle.catnap_top.specs.Answer.{line}
use Rattle.catnap_top.proofs.line.put_refusal.Goals as goal

pub returns-clause-text : goal.returns-clause-text
returns-clause-text g c =
    subst (λ number. Writes (g.K.Sink.written c.args.sink.now) (g.K.Sink.written c.put_line.new.sink)
    (line (c.args.head.now ∷ c.args.name.now ∷ codes " " ∷ signed_decimal number ∷ codes "\n" ∷ [])) c.put_line.result)
    (to_z-of_z w128 c.from.result (record { sfits = c.from.type_inv }) ∙ c.from.ensures) c.put_line.ensures.text
