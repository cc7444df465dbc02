-- What an image stands for while it is moved to the second format, whatever write of the move is lost.
use Rattle.std.specs.Prelude.{◌≡◌, ℕ, ◌≤◌, List, length, take, slice_index}
use Rattle.cat_program.specs.Checked.{Checked}
use Rattle.nv_memory.specs.declared.layout.Layout.{Layout}
use Rattle.nv_memory.specs.declared.board.Answer.{Answer}
use Rattle.nv_memory.specs.declared.board.Answer.TheVariants.{Done, Over}
use Rattle.nv_memory.specs.Board.{State, Runs}
use Rattle.nv_memory.specs.Layout.{size_of}
use Rattle.recovery.specs.Committed.{Committed, IsCommitted}
use Rattle.nv_log.specs.Record.{EntryFits}
use Rattle.cat_program.specs.declared.outs.LogEntry.{LogEntry}
use Rattle.std.specs.Prelude.{slice_get, Some}
use Rattle.migration.specs.Moves.{AreOfMove, CanMove, IsInOld, layout_in, move_writes}

-- an image has committed a value by the layout that its format byte tells, and while that is the first one it can be moved
pub record StandsFor (old new : Layout) (program : Checked) (image : List ℕ) (v : Committed) : Type 0 where
  pub committed : IsCommitted (layout_in old new image) program image v
  pub again : IsInOld image → CanMove old new image

-- each entry of a value has a record of the second format
abbrev pub AllFit : Layout → Committed → Type 0
AllFit new v = (k : ℕ) (entry : LogEntry) → slice_get v.entries k ≡ Some entry → EntryFits new entry

-- A move of an image that stands for a value: however many of its writes are asked for, and whether the last of them was
-- done or lost, the image stands for that value, and so it can be moved anew where its format byte still is even.
pub record MovesAreSafe : Type 0 where
  pub begins : (old new : Layout) (program : Checked) (image : List ℕ) (v : Committed) → AreOfMove old new → size_of new ≤ length image → IsInOld image → IsCommitted old program image v → AllFit new v
      → StandsFor old new program image v
  pub stands : (old new : Layout) (program : Checked) (v : Committed) (before after : State) (n : ℕ) (answer : Answer) → IsInOld before.image → StandsFor old new program before.image v
      → Runs before (take n (move_writes old new before.image)) answer after → StandsFor old new program after.image v
  -- a whole move ends in the second format
  pub done : (old new : Layout) (before after : State) → CanMove old new before.image → Runs before (move_writes old new before.image) Done after → slice_index after.image 1 ≡ 1
  -- one that found no room for a write has not come to the format byte
  pub over : (old new : Layout) (before after : State) → CanMove old new before.image → Runs before (move_writes old new before.image) Over after → IsInOld after.image
  -- nothing but the part behind the image of the first format, and the format byte, has changed
  pub size : (old new : Layout) (before after : State) (n : ℕ) (answer : Answer) → CanMove old new before.image → Runs before (take n (move_writes old new before.image)) answer after → length after.image ≡ length before.image
