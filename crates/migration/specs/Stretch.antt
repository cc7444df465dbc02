-- What a device does with an image of the first format until it is in the second one.
use Rattle.std.specs.Prelude.{◌≡◌, ◌≢◌, ◌≤◌, ◌%◌, ℕ, Bool, true, false, nat_le, if◌then◌else◌, List, [], ◌∷◌, ◌++◌, length, take, slice_index}
use Rattle.cat_program.specs.Checked.{Checked}
use Rattle.nv_memory.specs.declared.layout.Layout.{Layout}
use Rattle.nv_memory.specs.declared.board.Answer.{Answer}
use Rattle.nv_memory.specs.declared.board.Answer.TheVariants.{Over}
use Rattle.nv_memory.specs.declared.entry.Entry.{Entry}
use Rattle.nv_memory.specs.declared.entry.Op.{Op}
use Rattle.nv_memory.specs.declared.entry.Op.TheVariants.{Sleep, Wake}
use Rattle.nv_memory.specs.Board.{State, Runs, image_by}
use Rattle.recovery.specs.Committed.{Committed}
use Rattle.migration.specs.Laws.{StandsFor}
use Rattle.migration.specs.Moves.{IsInOld, move_writes}

-- an image's format byte is odd: it is in the second format
abbrev pub IsInNew : List ℕ → Type 0
IsInNew image = slice_index image 1 % 2 ≡ 1

-- What the board is asked for: a whole move where it is on; where it is off a wake, if it has enough stored, and else one tick of sleep.
abbrev pub asked_next : Layout → Layout → ℕ → State → List Op
asked_next old new enough s =
    if s.on then move_writes old new s.image
    else if nat_le enough s.stored then Wake ∷ []
    else Sleep ∷ []

-- So it goes on, also after a loss, until the format byte is odd, or until something has no room in the board's life.
pub data Moves (old new : Layout) (enough : ℕ) : State → Bool → State → Type 0 where
  Moved : (s t : State) → IsInNew s.image → t ≡ s → Moves old new enough s true t
  Ended : (s t : State) → IsInOld s.image → Runs s (asked_next old new enough s) Over t → Moves old new enough s false t
  Further : (s t u : State) (answer : Answer) (moved : Bool) → IsInOld s.image → answer ≢ Over → Runs s (asked_next old new enough s) answer t → Moves old new enough t moved u
      → Moves old new enough s moved u

-- an image of the first format that can be moved stands for some value of a program
pub record CanBegin (old new : Layout) (image : List ℕ) : Type 0 where
  pub program : Checked
  pub value : Committed
  pub stands : StandsFor old new program image value

-- the entries that lead from a board to another one, after each of which the image stands for a value
pub record KeepsValue (old new : Layout) (program : Checked) (v : Committed) (s t : State) : Type 0 where
  pub entries : List Entry
  pub timeline : t.timeline ≡ s.timeline ++ entries
  pub image : t.image ≡ image_by entries s.image
  pub stands : (n : ℕ) → n ≤ length entries → StandsFor old new program (image_by (take n entries) s.image) v

-- Whatever is lost on the way: after each entry the image stands for the value that it stood for. At the end it is in the second format,
-- or still in the first one where the life has ended before.
pub record StretchesAreSafe : Type 0 where
  pub keeps : (old new : Layout) (enough : ℕ) (program : Checked) (v : Committed) (s t : State) (moved : Bool) → StandsFor old new program s.image v → Moves old new enough s moved t
      → KeepsValue old new program v s t
  pub size : (old new : Layout) (enough : ℕ) (program : Checked) (v : Committed) (s t : State) (moved : Bool) → StandsFor old new program s.image v → Moves old new enough s moved t
      → length t.image ≡ length s.image
  pub later : (old new : Layout) (enough : ℕ) (s t : State) (moved : Bool) → Moves old new enough s moved t → s.tick ≤ t.tick
  pub moved : (old new : Layout) (enough : ℕ) (s t : State) → Moves old new enough s true t → IsInNew t.image
  pub ended : (old new : Layout) (enough : ℕ) (program : Checked) (v : Committed) (s t : State) → StandsFor old new program s.image v → Moves old new enough s false t → IsInOld t.image
