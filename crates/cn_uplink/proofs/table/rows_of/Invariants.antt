use Rattle.std.proofs.Common.{◌≡◌, ◌≤◌, ◌+◌, length, []}
use Rattle.cn_tables.specs.Table.{read_rows}
use Rattle.cn_uplink.specs.Table.{links_step}
use Rattle.cn_uplink.proofs.table.rows_of.Given as goal

abbrev pub invariant-rows : goal.invariant-rows
invariant-rows l = record {
  going : read_rows links_step 1 [] l.fn.rows.left ≡ read_rows links_step l.row l.kept.items l.rows.left;
  numbered : l.row ≡ length l.kept.items + 1;
  few : length l.kept.items ≤ 100000;
}

abbrev pub decreases-rows : goal.decreases-rows
decreases-rows l = length l.rows.left
