-- How far a cursor has come in a timeline.
use Rattle.std.specs.Prelude.{◌≡◌, ℕ, ◌+◌, ◌≤◌, ◌<◌, length, slice_get}
use Rattle.std.specs.Option.{option_map_or}
use Rattle.cn_report.specs.declared.cursor.Cursor.{Cursor}
use Rattle.recovery.specs.Past.{Past, image_at, committed_at, end_of}
use Rattle.cn_report.specs.Windows.{AreHeads}

-- it holds the heads of the image where it is, and the end of the entry before it
pub record HasPassed (past : Past) (c : Cursor) : Type 0 where
  pub within : c.passed ≤ length past.timeline
  pub heads : AreHeads past.layout (image_at past c.passed) c.heads
  pub ended : (k : ℕ) → c.passed ≡ k + 1 → c.ended ≡ option_map_or end_of (slice_get past.timeline k) 0

-- before it the record at a place was never committed
abbrev pub IsBefore : Past → ℕ → Cursor → Type 0
IsBefore past place c = (n : ℕ) → n < c.passed → (committed_at past n).len ≤ place
