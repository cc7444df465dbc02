use Rattle.std.proofs.Common.{◌≡◌, ◌+◌, ◌≤◌, length, []}
use Rattle.cn_tables.specs.Table.{read_rows}
use Rattle.event_arrivals.specs.Rows.{arrivals_step, last_tick}
use Rattle.event_arrivals.proofs.table.rows_of.Given as goal

abbrev pub invariant-rows : goal.invariant-rows
invariant-rows l = record {
  going : read_rows (arrivals_step l.program.headers) 1 [] l.fn.rows.left ≡ read_rows (arrivals_step l.program.headers) l.number l.kept.items l.rows.left;
  numbered : l.number ≤ 100001;
  counted : length l.kept.items + 1 ≡ l.number;
  last_is : l.last ≡ last_tick 0 l.kept.items;
}

abbrev pub decreases-rows : goal.decreases-rows
decreases-rows l = length l.rows.left
