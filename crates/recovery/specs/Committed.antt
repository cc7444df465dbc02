-- What an image has committed.
use Rattle.std.specs.Prelude.{◌≡◌, ◌⊎◌, ℕ, ◌<◌, Bool, false, List, length, Option, Some, slice_get, slice_index, count_by, ◌==◌}
use Rattle.cat_program.specs.declared.outs.LogEntry.{LogEntry}
use Rattle.cat_program.specs.declared.outs.LogEntry.TheVariants.{Out, Ran}
use Rattle.cat_program.specs.Body.{Body}
use Rattle.cat_program.specs.Checked.{Checked}
use Rattle.cat_program.specs.Resting.{RestsAt}
use Rattle.nv_memory.specs.declared.layout.Layout.{Layout}
use Rattle.nv_memory.specs.declared.board.Answer.{Answer}
use Rattle.nv_memory.specs.declared.board.Answer.TheVariants.{Done, Lost, Over}
use Rattle.checkpoint_slots.specs.declared.slot.Slot.{Slot}
use Rattle.checkpoint_slots.specs.Image.{committed_bytes, committed_slot, IsWellFormed}
use Rattle.nv_log.specs.Record.{record_bytes, IsSpelled}

-- an entry says that this event was handled
abbrev pub is_ran : ℕ → LogEntry → Bool
is_ran e (Out channel value) = false
is_ran e (Ran event version steps start index) = e == event

-- the slot, the list of statements that its place stands for, or none, and the entries of its log
pub record Committed : Type 0 where
  pub slot : Slot
  pub current : Option Body
  pub entries : List LogEntry

-- the log of the image has these entries, and the slot counts them
pub record IsRecorded (l : Layout) (program : Checked) (image : List ℕ) (v : Committed) : Type 0 where
  pub many : length v.entries ≡ v.slot.len
  pub entries_are : (k : ℕ) (e : LogEntry) → slice_get v.entries k ≡ Some e → IsSpelled l program (record_bytes l k image) e
  pub counted : (e : ℕ) → e < l.events → slice_index v.slot.done e ≡ count_by (is_ran e) v.entries

-- the image has committed this value
pub record IsCommitted (l : Layout) (program : Checked) (image : List ℕ) (v : Committed) : Type 0 where
  pub formed : IsWellFormed l (committed_bytes l image)
  pub slot_is : committed_slot l image ≡ v.slot
  pub rests : RestsAt program v.slot.pc v.current
  pub recorded : IsRecorded l program image v

-- one of two values is committed after a slot was saved, or not
abbrev pub Commits : Layout → Checked → Committed → Committed → List ℕ → Answer → Type 0
Commits l program old new image Done = IsCommitted l program image new
Commits l program old new image Lost = IsCommitted l program image old ⊎ IsCommitted l program image new
Commits l program old new image Over = IsCommitted l program image old
