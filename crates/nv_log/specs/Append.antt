-- What an append asks of the board, and what is left after it.
use Rattle.std.specs.Prelude.{◌≡◌, ◌≢◌, ℕ, ◌<◌, ◌≤◌, List, take, length}
use Rattle.cat_program.specs.declared.outs.LogEntry.{LogEntry}
use Rattle.nv_memory.specs.declared.layout.Layout.{Layout}
use Rattle.nv_memory.specs.declared.entry.Op.{Op}
use Rattle.nv_memory.specs.declared.entry.Op.TheVariants.{Emit, Write}
use Rattle.nv_memory.specs.Layout.{log_at, record_at, record_len, size_of}
use Rattle.nv_memory.specs.Board.{State, IsDone, IsLost, IsOver, image_after, left_of, leaving}
use Rattle.nv_log.specs.declared.log.By.{By}
use Rattle.nv_log.specs.declared.log.By.TheVariants as by
use Rattle.nv_log.specs.declared.log.Put.{Put}
use Rattle.nv_log.specs.declared.log.Put.TheVariants as put
use Rattle.nv_log.specs.Record.{EntryFits, record_of, record_bytes}

-- the operation that writes these bytes
abbrev pub op_of : By → ℕ → List ℕ → Op
op_of by.Write at bytes = Write at bytes
op_of (by.Instr pc) at bytes = Emit pc at bytes

-- the one operation of an append
abbrev pub append_op : Layout → ℕ → LogEntry → By → Op
append_op l place entry kind = op_of kind (record_at l place) (record_of l entry)

-- the board did it, lost it or had no room, or wasn't called
abbrev pub Puts : State → Op → Put → State → Type 0
Puts old op put.Done new = IsDone old op new
Puts old op put.Lost new = IsLost old op new
Puts old op put.Over new = IsOver old op new
Puts old op put.Full new = new ≡ old

-- nothing but the record at one place has changed: the gate, the slots and all other records stay
pub record ChangesRecord (l : Layout) (place : ℕ) (old new : List ℕ) : Type 0 where
  pub size : length new ≡ length old
  pub front : take (log_at l) new ≡ take (log_at l) old
  pub others : (k : ℕ) → k ≢ place → record_bytes l k new ≡ record_bytes l k old

-- What the one write of an append leaves: torn, it changes its own record alone, and done, the entry is spelled there.
pub record AppendsAreSafe : Type 0 where
  pub torn : (l : Layout) (place : ℕ) (entry : LogEntry) (kind : By) (image bytes : List ℕ) → place < l.log → size_of l ≤ length image
      → length bytes ≡ length (left_of (append_op l place entry kind)) → ChangesRecord l place image (image_after (leaving (append_op l place entry kind) bytes) image)
  pub done : (l : Layout) (place : ℕ) (entry : LogEntry) (kind : By) (image : List ℕ) → place < l.log → size_of l ≤ length image
      → let new = image_after (append_op l place entry kind) image in ChangesRecord l place image new × (record_bytes l place new ≡ record_of l entry)

-- each entry has one spelling, of a record's length, and no two have the same
pub record EntriesAreSpelledOnce : Type 0 where
  pub length_is : (l : Layout) (entry : LogEntry) → length (record_of l entry) ≡ record_len l
  pub once : (l : Layout) (one other : LogEntry) → EntryFits l one → EntryFits l other → record_of l one ≡ record_of l other → one ≡ other
