use Rattle.std.proofs.Common.{◌≡◌, ◌+◌, length, []}
use Rattle.cn_tables.specs.Table.{read_rows}
use Rattle.forecast_table.specs.Table.{forecast_step, last_tick}
use Rattle.forecast_table.proofs.Steps.{AreRows}
use Rattle.forecast_table.proofs.table.rows_of.Given as goal

abbrev pub invariant-rows : goal.invariant-rows
invariant-rows l = record {
  going : read_rows forecast_step 1 [] l.fn.rows.left ≡ read_rows forecast_step l.row l.kept.items l.rows.left;
  numbered : l.row ≡ length l.kept.items + 1;
  last_is : l.last ≡ last_tick l.kept.items;
  rows : AreRows l.kept.items;
}

abbrev pub decreases-rows : goal.decreases-rows
decreases-rows l = length l.rows.left
