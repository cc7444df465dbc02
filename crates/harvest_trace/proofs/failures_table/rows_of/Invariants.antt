use Rattle.std.proofs.Common.{◌≡◌, ◌≤◌, length, [], None}
use Rattle.cn_tables.specs.Table.{read_rows}
use Rattle.harvest_trace.specs.FailsTable.{fails_step, last_tick}
use Rattle.harvest_trace.specs.Failures.{IsRising}
use Rattle.harvest_trace.proofs.failures_table.rows_of.Given as goal

abbrev pub invariant-rows : goal.invariant-rows
invariant-rows l = record {
  going : read_rows fails_step 1 [] l.fn.rows.left ≡ read_rows fails_step l.row l.kept.items l.rows.left;
  numbered : l.row ≤ 100001;
  last_is : l.last ≡ last_tick None l.kept.items;
  rising : IsRising l.kept.items;
}

abbrev pub decreases-rows : goal.decreases-rows
decreases-rows l = length l.rows.left
