use Rattle.forecast_table.proofs.Told.{told}
use Rattle.forecast_table.proofs.laws.told_forecasts_are_sound.Goals as goal

pub returns : goal.returns
returns c = told
