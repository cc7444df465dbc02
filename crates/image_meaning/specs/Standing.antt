-- What an image stands for in a run.
use Rattle.std.specs.Prelude.{◌≡◌, ℕ, ◌<◌, ◌≤◌, List, length, Some, slice_get}
use Rattle.cat_program.specs.declared.outs.LogEntry.{LogEntry}
use Rattle.cat_program.specs.Checked.{Checked}
use Rattle.nv_memory.specs.declared.layout.Layout.{Layout}
use Rattle.nv_memory.specs.declared.entry.Op.{Op}
use Rattle.nv_memory.specs.declared.entry.Op.TheVariants.{Instr, Emit, Write, Wake, Sleep}
use Rattle.nv_memory.specs.Layout.{record_len, record_at}
use Rattle.checkpoint_slots.specs.declared.slot.Slot.{Slot}
use Rattle.checkpoint_slots.specs.Slot.{variables_of, read_slot, spelling}
use Rattle.checkpoint_slots.specs.Image.{IsWellFormed}
use Rattle.nv_log.specs.Record.{record_bytes, IsSpelled}
use Rattle.cat_program.specs.Resting.{RestsAt}
use Rattle.recovery.specs.Committed.{Committed, IsCommitted, IsRecorded}
use Rattle.reference_run.specs.Reference.{Moment}

-- the moment of a run that a committed value tells
abbrev pub moment_of : Committed → Moment
moment_of v =
    record {
      state = record { store = record { words = variables_of v.slot; posts = v.slot.posts }; current = v.current };
      steps = v.slot.steps;
      entries = v.entries;
    }

-- the image has committed this moment
pub record StandsFor (l : Layout) (program : Checked) (image : List ℕ) (m : Moment) : Type 0 where
  pub value : Committed
  pub committed : IsCommitted l program image value
  pub is : moment_of value ≡ m

-- the first records of the log spell these entries
abbrev pub Spells : Layout → Checked → List ℕ → List LogEntry → Type 0
Spells l program image entries = (k : ℕ) (entry : LogEntry) → slice_get entries k ≡ Some entry → IsSpelled l program (record_bytes l k image) entry

-- a slot is read as it was spelled
pub record IsStorable (l : Layout) (s : Slot) : Type 0 where
  pub again : read_slot l (spelling l s) ≡ s
  pub formed : IsWellFormed l (spelling l s)

-- a value that a save would commit: its place stands for its list, and the image has its entries
pub record IsReady (l : Layout) (program : Checked) (image : List ℕ) (v : Committed) : Type 0 where
  pub rests : RestsAt program v.slot.pc v.current
  pub recorded : IsRecorded l program image v
  pub storable : IsStorable l v.slot

-- these bytes are for one record of the log, which is not among the first n
pub record IsRecordBehind (l : Layout) (n at : ℕ) (bytes : List ℕ) : Type 0 where
  pub place : ℕ
  pub behind : n ≤ place
  pub within : place < l.log
  pub at_is : at ≡ record_at l place
  pub size : length bytes ≡ record_len l

-- an operation that leaves alone the gate, the slots and the first n records
abbrev pub IsBehind : Layout → ℕ → Op → Type 0
IsBehind l n (Instr class pc) = Unit {0}
IsBehind l n (Emit pc at left) = IsRecordBehind l n at left
IsBehind l n (Write at left) = IsRecordBehind l n at left
IsBehind l n Wake = Unit {0}
IsBehind l n Sleep = Unit {0}
