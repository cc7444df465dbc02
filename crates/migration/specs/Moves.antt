-- How an image of format 1 becomes one of format 2, in place.
use Rattle.std.specs.Prelude.{◌≡◌, ◌<◌, ◌≤◌, ◌+◌, ◌*◌, ◌%◌, ◌==◌, ℕ, List, [], ◌∷◌, ◌++◌, length, map, slice_index, if◌then◌else◌}
use Rattle.std.specs.List.{range_with_len}
use Rattle.cat_program.specs.declared.outs.LogEntry.{LogEntry}
use Rattle.nv_memory.specs.declared.layout.Layout.{Layout}
use Rattle.nv_memory.specs.declared.entry.Op.{Op}
use Rattle.nv_memory.specs.declared.entry.Op.TheVariants.{Write}
use Rattle.nv_memory.specs.Bytes.{bytes_at}
use Rattle.nv_memory.specs.Layout.{lines_of, record_at, slot_at, size_of}
use Rattle.checkpoint_slots.specs.Commit.{same_bytes}
use Rattle.checkpoint_slots.specs.Image.{committed_bytes, committed_slot, selected_of, IsWellFormed}
use Rattle.nv_log.specs.Record.{EntryFits, entry_of, record_bytes, record_of}

-- one program's layouts in the two formats, the second one behind the whole image of the first
pub record AreOfMove (old new : Layout) : Type 0 where
  pub old_format : old.format ≡ 1
  pub new_format : new.format ≡ 2
  pub words : new.words ≡ old.words
  pub tasks : new.tasks ≡ old.tasks
  pub events : new.events ≡ old.events
  pub log : new.log ≡ old.log
  pub behind : size_of old ≤ new.base

-- an image's format byte is even: it is in the first format
abbrev pub IsInOld : List ℕ → Type 0
IsInOld image = slice_index image 1 % 2 ≡ 0

-- the layout of an image, by its format byte
abbrev pub layout_in : Layout → Layout → List ℕ → Layout
layout_in old new image = if slice_index image 1 % 2 == 0 then old else new

-- bytes at their new place
pub record Part : Type 0 where
  pub at : ℕ
  pub bytes : List ℕ

-- a record of the log, spelled as in the second format
abbrev pub record_part : Layout → Layout → List ℕ → ℕ → Part
record_part old new image k = record { at = record_at new k; bytes = record_of new (entry_of old (record_bytes old k image)) }

-- a line of the selected slot, spelled alike in both formats
abbrev pub line_part : Layout → Layout → List ℕ → ℕ → Part
line_part old new image i = record { at = slot_at new (selected_of image) + 64 * i; bytes = bytes_at (slot_at old (selected_of image) + 64 * i) 64 image }

-- how many records an image has committed
abbrev pub len_in : Layout → List ℕ → ℕ
len_in l image = (committed_slot l image).len

-- what a move that begins at an image brings over: the committed records, and then the selected slot
abbrev pub records_of : Layout → Layout → List ℕ → List Part
records_of old new image = map (record_part old new image) (range_with_len 0 (len_in old image))

abbrev pub lines_in : Layout → Layout → List ℕ → List Part
lines_in old new image = map (line_part old new image) (range_with_len 0 (lines_of old))

abbrev pub parts_of : Layout → Layout → List ℕ → List Part
parts_of old new image = records_of old new image ++ lines_in old new image

-- the write of a part, where other bytes stand at its place
abbrev pub missing : List ℕ → Part → List Op
missing image part = if same_bytes (bytes_at part.at (length part.bytes) image) part.bytes then [] else Write part.at part.bytes ∷ []

abbrev pub writes_of : List ℕ → List Part → List Op
writes_of image [] = []
writes_of image (part ∷ parts) = missing image part ++ writes_of image parts

-- the write of the format byte
abbrev pub format_write : Op
format_write = Write 1 (1 ∷ [])

-- all writes of a move that begins at an image: of the parts that don't stand yet, and then of the format byte
abbrev pub move_writes : Layout → Layout → List ℕ → List Op
move_writes old new image = writes_of image (parts_of old new image) ++ format_write ∷ []

-- each committed record spells an entry that fits into the second format too
abbrev pub HaveForms : Layout → Layout → List ℕ → Type 0
HaveForms old new image = (k : ℕ) → k < len_in old image → (entry : LogEntry) × EntryFits new entry × EntryFits old entry × (record_bytes old k image ≡ record_of old entry)

-- an image of the first format can be moved
pub record CanMove (old new : Layout) (image : List ℕ) : Type 0 where
  pub layouts : AreOfMove old new
  pub size : size_of new ≤ length image
  pub format : IsInOld image
  pub formed : IsWellFormed old (committed_bytes old image)
  pub forms : HaveForms old new image
