use Rattle.forecast_choice.proofs.Choices.{alone-choices, alone-chosen, alone-first, alone-refused}
use Rattle.forecast_choice.proofs.law.one_row_law.Goals as goal

pub returns : goal.returns
returns c = record { chosen = alone-chosen; alone = alone-choices; refused = alone-refused; first = alone-first }
