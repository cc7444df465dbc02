-- A program with the versions that were chosen for its events, for each row of a forecast.
use Rattle.std.specs.Prelude.{◌≡◌, Bool, List, length, All}
use Rattle.cat_program.specs.Checked.{Checked}
use Rattle.degradation.specs.Choice.{Suits}
use Rattle.degradation.specs.declared.chosen.Chosen.{Chosen}
use Rattle.forecast_table.specs.declared.epoch.Epoch.{Epoch}

pub record SelectedValue : Type 0 where
  pub program : Checked
  -- a file gave the forecast
  pub given : Bool
  pub rows : List Epoch
  pub chosen : List Chosen

pub record AreSelected (s : SelectedValue) : Type 0 where
  pub count : length s.chosen ≡ length s.rows
  pub suit : All (Suits s.program) s.chosen
