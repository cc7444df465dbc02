-- What keeps a committed value, and what commits one.
use Rattle.std.specs.Prelude.{◌≡◌, ℕ, ◌≤◌, List}
use Rattle.cat_program.specs.Checked.{Checked}
use Rattle.nv_memory.specs.declared.layout.Layout.{Layout}
use Rattle.nv_memory.specs.declared.board.Answer.{Answer}
use Rattle.nv_memory.specs.Board.{State}
use Rattle.checkpoint_slots.specs.Slot.{read_slot, spelling}
use Rattle.checkpoint_slots.specs.Image.{committed_bytes, log_bytes, IsWellFormed}
use Rattle.checkpoint_slots.specs.Save.{IsSaved}
use Rattle.checkpoint_slots.specs.Writes.{StandsForSame}
use Rattle.nv_log.specs.Append.{ChangesRecord}
use Rattle.cat_program.specs.Resting.{RestsAt}
use Rattle.recovery.specs.Committed.{Committed, IsCommitted, IsRecorded, Commits}
use Rattle.recovery.specs.First.{IsFresh}

pub record CommitsLast : Type 0 where
  -- an image has committed one value at most
  pub once : (l : Layout) (program : Checked) (image : List ℕ) (v w : Committed) → IsCommitted l program image v → IsCommitted l program image w → v ≡ w
  -- a record behind the committed ones may be any
  pub append : (l : Layout) (program : Checked) (place : ℕ) (old new : List ℕ) (v : Committed) → ChangesRecord l place old new → v.slot.len ≤ place → IsCommitted l program old v → IsCommitted l program new v
  -- an image that stands for the same
  pub same : (l : Layout) (program : Checked) (old new : List ℕ) (v : Committed) → StandsForSame l old new → IsCommitted l program old v → IsCommitted l program new v
  -- the image stands for a slot whose entries are recorded
  pub spelled : (l : Layout) (program : Checked) (old new : List ℕ) (v : Committed) → IsWellFormed l (spelling l v.slot) → read_slot l (spelling l v.slot) ≡ v.slot
      → RestsAt program v.slot.pc v.current → IsRecorded l program old v → log_bytes l new ≡ log_bytes l old → committed_bytes l new ≡ spelling l v.slot → IsCommitted l program new v
  -- a whole save leaves the old value or the new one, whose entries are recorded before
  pub save : (l : Layout) (program : Checked) (before after : State) (old new : Committed) → IsCommitted l program before.image old → RestsAt program new.slot.pc new.current
      → IsRecorded l program before.image new → IsWellFormed l (spelling l new.slot) → read_slot l (spelling l new.slot) ≡ new.slot → (answer : Answer) → IsSaved l new.slot before answer after → Commits l program old new after.image answer

-- a program has one first image in a layout
abbrev pub FirstImageIsOne : Type 0
FirstImageIsOne = (program : Checked) (l : Layout) (a b : List ℕ) → IsFresh program l a → IsFresh program l b → a ≡ b
