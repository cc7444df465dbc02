use Rattle.std.proofs.Common.{◌≡◌, ℕ, ◌+◌, ◌-◌, ◌*◌, ◌<◌, ◌≤◌, ◌++◌, length, replicate}
use Rattle.std.specs.Prelude.{vec_capacity}
use Rattle.board_core.proofs.timeline.mark.Given as goal

abbrev pub invariant-marks : goal.invariant-marks
invariant-marks l = record {
  items : (n : ℕ) × (l.marks.items ≡ l.fn.marks.items ++ replicate n l.nth);
  no_more : 64 * length l.marks.items < l.count + 64;
  room : l.count ≤ 64 * vec_capacity l.marks;
  capacity : vec_capacity l.fn.marks ≤ vec_capacity l.marks;
}

abbrev pub decreases-marks : goal.decreases-marks
decreases-marks l = l.count - length l.marks.items
