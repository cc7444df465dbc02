use Rattle.forecast_table.proofs.Staying.{until_next}
use Rattle.forecast_table.proofs.laws.epochs_law.Goals as goal

pub returns : goal.returns
returns c = until_next
