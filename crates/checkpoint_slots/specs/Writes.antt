-- What each write of a commit finds and leaves, finished or torn.
use Rattle.std.specs.Prelude.{◌≡◌, ◌⊎◌, ℕ, ◌+◌, ◌*◌, ◌<◌, ◌≤◌, List, [], ◌∷◌, length, take}
use Rattle.nv_memory.specs.declared.layout.Layout.{Layout}
use Rattle.nv_memory.specs.Layout.{lines_of, log_at, size_of}
use Rattle.nv_memory.specs.Bytes.{bytes_at}
use Rattle.nv_memory.specs.Board.{image_after, left_of, leaving}
use Rattle.checkpoint_slots.specs.declared.slot.Slot.{Slot}
use Rattle.checkpoint_slots.specs.Slot.{line_of, spelling}
use Rattle.checkpoint_slots.specs.Image.{committed_bytes, log_bytes, ChangesWithin}
use Rattle.checkpoint_slots.specs.Commit.{line_write, gate_write, other_at, commit_lines, commit_writes}

abbrev pub IsAmong : ℕ → List ℕ → Type 0
IsAmong i [] = ⊥
IsAmong i (j ∷ js) = (i ≡ j) ⊎ IsAmong i js

-- a commit of the slot began at an image, and of its lines these are left to write
pub record IsUnderWay (l : Layout) (s : Slot) (start : List ℕ) (left : List ℕ) (image : List ℕ) : Type 0 where
  pub elsewhere : ChangesWithin (other_at l start) (64 * lines_of l) start image
  pub lines_left : (i : ℕ) → IsAmong i left → i < lines_of l
  pub others_stand : (i : ℕ) → i < lines_of l → IsAmong i left ⊎ (bytes_at (other_at l start + 64 * i) 64 image ≡ line_of s i)

-- one image stands for what another one does
pub record StandsForSame (l : Layout) (old new : List ℕ) : Type 0 where
  pub slot : committed_bytes l new ≡ committed_bytes l old
  pub log : log_bytes l new ≡ log_bytes l old
  pub size : length new ≡ length old

-- Each write of a commit leaves what the image stands for, but for that of the gate, which is the last one: torn, it
-- leaves the old slot or the new one, and done, the new one.
pub record CommitsAreSafe : Type 0 where
  pub begins : (l : Layout) (s : Slot) (start : List ℕ) → IsUnderWay l s start (commit_lines l s start) start
  pub stands : (l : Layout) (s : Slot) (start left image : List ℕ) → IsUnderWay l s start left image → StandsForSame l start image
  pub torn_line : (l : Layout) (s : Slot) (start : List ℕ) (i : ℕ) (left image bytes : List ℕ) → size_of l ≤ length start → IsUnderWay l s start (i ∷ left) image
      → length bytes ≡ length (left_of (line_write s (other_at l start) i)) → IsUnderWay l s start (i ∷ left) (image_after (leaving (line_write s (other_at l start) i) bytes) image)
  pub done_line : (l : Layout) (s : Slot) (start : List ℕ) (i : ℕ) (left image : List ℕ) → size_of l ≤ length start → IsUnderWay l s start (i ∷ left) image
      → IsUnderWay l s start left (image_after (line_write s (other_at l start) i) image)
  pub torn_gate : (l : Layout) (s : Slot) (start image bytes : List ℕ) → size_of l ≤ length start → IsUnderWay l s start [] image
      → length bytes ≡ length (left_of (gate_write start)) → let new = image_after (leaving (gate_write start) bytes) image in
      (log_bytes l new ≡ log_bytes l start) × ((committed_bytes l new ≡ committed_bytes l start) ⊎ (committed_bytes l new ≡ spelling l s))
  pub done_gate : (l : Layout) (s : Slot) (start image : List ℕ) → size_of l ≤ length start → IsUnderWay l s start [] image
      → committed_bytes l (image_after (gate_write start) image) ≡ spelling l s
  -- what stands in the log doesn't count
  pub by_front : (l : Layout) (s : Slot) (one other : List ℕ) → take (log_at l) one ≡ take (log_at l) other → commit_writes l s one ≡ commit_writes l s other
