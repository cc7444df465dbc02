use Rattle.std.proofs.Common.{◌≡◌, ◌≤◌, ◌+◌, length, []}
use Rattle.cn_tables.specs.Table.{read_rows}
use Rattle.harvest_trace.specs.Timeline.{IsTimeline}
use Rattle.harvest_trace.specs.TraceTable.{trace_step}
use Rattle.harvest_trace.proofs.trace_table.rows_of.Given as goal

abbrev pub invariant-rows : goal.invariant-rows
invariant-rows l = record {
  going : read_rows trace_step 1 [] l.fn.rows.left ≡ read_rows trace_step l.number l.kept.items l.rows.left;
  numbered : l.number ≤ l.life + 1;
  timeline : IsTimeline l.kept.items l.ends.items l.life;
}

abbrev pub decreases-rows : goal.decreases-rows
decreases-rows l = length l.rows.left
