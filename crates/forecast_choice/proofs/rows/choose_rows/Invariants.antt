use Rattle.std.proofs.Common.{◌≡◌, ◌+◌}
use Rattle.std.specs.Prelude.{All}
use Rattle.degradation.specs.Choice.{Suits}
use Rattle.forecast_choice.proofs.Choices.{AreFirst}
use Rattle.forecast_choice.proofs.rows.choose_rows.Given as goal

abbrev pub invariant-loop-row : goal.invariant-loop-row
invariant-loop-row l = record {
  first : AreFirst l.program l.bounds l.device l.lines l.rows l.row-index l.found.items;
  suits : All (Suits l.program) l.found.items;
  numbered : l.number ≡ l.row-index + 1;
}
