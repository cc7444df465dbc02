-- What operations leave of what an image stands for, done or lost.
use Rattle.std.specs.Prelude.{◌≡◌, ◌⊎◌, ℕ, ◌<◌, ◌≤◌, List, [], ◌∷◌, ◌++◌, length}
use Rattle.cat_program.specs.declared.outs.LogEntry.{LogEntry}
use Rattle.cat_program.specs.Checked.{Checked}
use Rattle.nv_memory.specs.declared.layout.Layout.{Layout}
use Rattle.nv_memory.specs.declared.entry.Op.{Op}
use Rattle.nv_memory.specs.Layout.{size_of}
use Rattle.nv_memory.specs.Board.{image_after, left_of, leaving}
use Rattle.checkpoint_slots.specs.Commit.{gate_write}
use Rattle.checkpoint_slots.specs.Writes.{IsUnderWay}
use Rattle.nv_log.specs.declared.log.By.{By}
use Rattle.nv_log.specs.Append.{append_op}
use Rattle.nv_log.specs.Record.{EntryFits, IsOf}
use Rattle.recovery.specs.Committed.{Committed, IsCommitted}
use Rattle.recovery.specs.First.{IsFresh}
use Rattle.reference_run.specs.Reference.{Moment, first_moment}
use Rattle.image_meaning.specs.Standing.{StandsFor, Spells, IsReady, IsBehind}

-- an operation that writes no more than a record behind the first n
pub record OperationsAreSafe (l : Layout) (program : Checked) : Type 0 where
  pub committed : (n : ℕ) (op : Op) (bytes image : List ℕ) (v : Committed) → size_of l ≤ length image → IsBehind l n op → length bytes ≡ length (left_of op)
      → v.slot.len ≤ n → IsCommitted l program image v → IsCommitted l program (image_after (leaving op bytes) image) v
  pub spells : (n : ℕ) (op : Op) (bytes image : List ℕ) (entries : List LogEntry) → size_of l ≤ length image → IsBehind l n op → length bytes ≡ length (left_of op)
      → length entries ≤ n → Spells l program image entries → Spells l program (image_after (leaving op bytes) image) entries
  pub size : (n : ℕ) (op : Op) (bytes image : List ℕ) → size_of l ≤ length image → IsBehind l n op → length bytes ≡ length (left_of op)
      → length (image_after (leaving op bytes) image) ≡ length image
  -- an entry that is appended is one of them
  pub behind : (n place : ℕ) (entry : LogEntry) (kind : By) → n ≤ place → place < l.log → IsBehind l n (append_op l place entry kind)
  -- and once it is done, the log spells it too
  pub appended : (entry : LogEntry) (kind : By) (image : List ℕ) (entries : List LogEntry) → length entries < l.log → size_of l ≤ length image → IsOf program entry → EntryFits l entry
      → Spells l program image entries → Spells l program (image_after (append_op l (length entries) entry kind) image) (entries ++ entry ∷ [])
  -- an operation that was done left its own bytes
  pub own_bytes : (op : Op) → leaving op (left_of op) ≡ op

-- the writes of a commit that began at an image
pub record CommitsAreKept (l : Layout) (program : Checked) : Type 0 where
  -- until the gate's, the image stands for what it did
  pub lines : (start left image : List ℕ) (old new : Committed) → IsUnderWay l new.slot start left image → IsCommitted l program start old → IsCommitted l program image old
  pub lines_spell : (start left image : List ℕ) (new : Committed) (entries : List LogEntry) → IsUnderWay l new.slot start left image → Spells l program start entries → Spells l program image entries
  -- torn, the gate leaves the old value or the new one, and done, the new one
  pub torn_gate : (start image bytes : List ℕ) (old new : Committed) → size_of l ≤ length start → IsUnderWay l new.slot start [] image → length bytes ≡ length (left_of (gate_write start))
      → IsCommitted l program start old → IsReady l program start new → let after = image_after (leaving (gate_write start) bytes) image in
      IsCommitted l program after old ⊎ IsCommitted l program after new
  pub done_gate : (start image : List ℕ) (new : Committed) → size_of l ≤ length start → IsUnderWay l new.slot start [] image → IsReady l program start new
      → IsCommitted l program (image_after (gate_write start) image) new
  pub gate_size : (start image bytes : List ℕ) (new : Committed) → size_of l ≤ length start → IsUnderWay l new.slot start [] image → length bytes ≡ length (left_of (gate_write start))
      → length (image_after (leaving (gate_write start) bytes) image) ≡ length start
  pub gate_spells : (start image bytes : List ℕ) (new : Committed) (entries : List LogEntry) → size_of l ≤ length start → IsUnderWay l new.slot start [] image
      → length bytes ≡ length (left_of (gate_write start)) → Spells l program start entries → Spells l program (image_after (leaving (gate_write start) bytes) image) entries

pub record ImagesStandForOne (l : Layout) (program : Checked) : Type 0 where
  pub once : (image : List ℕ) (m n : Moment) → StandsFor l program image m → StandsFor l program image n → m ≡ n
  pub fresh : (image : List ℕ) → IsFresh program l image → StandsFor l program image (first_moment program)
