use Rattle.std.proofs.Common.{◌≡◌, ◌++◌, drop, take, reverse, length, map, []}
use Rattle.event_arrivals.specs.Arrivals.{dropped_of}
use Rattle.event_arrivals.specs.Kept.{dropped_rows, kept_rows}
use Rattle.event_arrivals.proofs.KeptLemmas.{Remembers}
use Rattle.event_arrivals.proofs.spacing.part.Given as goal

abbrev pub invariant-rows : goal.invariant-rows
invariant-rows l = record {
  kept : kept_rows l.timings [] l.rows ≡ l.kept.items ++ kept_rows l.timings (reverse (take l.row-index l.rows)) (drop l.row-index l.rows);
  dropped : map dropped_of (dropped_rows l.timings [] l.rows) ≡ l.dropped.items ++ map dropped_of (dropped_rows l.timings (reverse (take l.row-index l.rows)) (drop l.row-index l.rows));
  lasts : Remembers l.lasts l.timings (reverse (take l.row-index l.rows));
  sized : length l.lasts ≡ 256;
}
