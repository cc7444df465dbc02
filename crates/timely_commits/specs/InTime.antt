-- By when a record was committed.
use Rattle.std.specs.Prelude.{ℕ, ◌<◌, ◌≤◌, length, take, All}
use Rattle.recovery.specs.Past.{Past, committed_at, done_at, end_of}

-- a record that is committed after some entries, all of which ended by a tick, was committed by it
abbrev pub CommitsInTime : Type 0
CommitsInTime =
    (past : Past) (place n d : ℕ) → 0 < n → n ≤ length past.timeline → place < (committed_at past n).len →
    All (λ entry. end_of entry ≤ d) (take n past.timeline) → done_at past place ≤ d
