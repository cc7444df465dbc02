use Rattle.catnap_top.proofs.OneChoice.{one_choice}
use Rattle.catnap_top.proofs.one.one_choice.Goals as goal

pub returns : goal.returns
returns c = λ p q d rows. one_choice c.one_rows_law.ensures.choices c.one_rows_law.ensures.reasons c.one_rows_law.ensures.either d rows p q
