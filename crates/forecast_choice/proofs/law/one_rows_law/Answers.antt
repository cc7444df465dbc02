use Rattle.forecast_choice.proofs.One.{choices_one, not_both, reasons_one}
use Rattle.forecast_choice.proofs.law.one_rows_law.Goals as goal

pub returns : goal.returns
returns c =
    let law = c.one_choice_law.ensures in
    record {
      choices = λ p q d lines b v are. choices_one p q d lines b v (λ supply. law.choice p q d supply lines b v are);
      reasons = λ p q d lines b v are turned. reasons_one p q d lines b v (λ supply. law.reason p q d supply lines b v are) (λ supply. law.either p q d supply lines b v are) (λ supply. law.either q p d supply lines v b turned);
      either = λ p q d lines b v are. not_both p q d lines b v (λ supply. law.either p q d supply lines b v are);
    }
