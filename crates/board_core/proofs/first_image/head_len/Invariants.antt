use Rattle.std.proofs.Common.{ℕ, ◌≡◌, ◌≤◌, length, get_or}
use Rattle.board_core.proofs.first_image.head_len.Given as goal

abbrev pub invariant-parts : goal.invariant-parts
invariant-parts l = record { within : l.len ≤ length l.image; zeros : (k : ℕ) → l.len ≤ k → get_or l.image k 0 ≡ 0 }

abbrev pub decreases-parts : goal.decreases-parts
decreases-parts l = l.len
