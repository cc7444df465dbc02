-- The records of the log.
use Rattle.std.specs.Prelude.{◌≡◌, ℕ, ◌<◌, ◌≤◌, List, [], ◌∷◌, ◌++◌, ◌^◌, ◌==◌, if◌then◌else◌, slice_index, FitsSigned, Option, Some, IfSome}
use Rattle.std.specs.Int.{w32, w64, to_le_bytes, from_le_bytes, cast_signed, cast_unsigned}
use Rattle.cat_program.specs.declared.outs.LogEntry.{LogEntry}
use Rattle.cat_program.specs.declared.outs.LogEntry.TheVariants.{Out, Ran}
use Rattle.cat_program.specs.Checked.{Checked, HasVersion}
use Rattle.nv_memory.specs.declared.layout.Layout.{Layout}
use Rattle.nv_memory.specs.Layout.{record_len, record_at}
use Rattle.nv_memory.specs.Bytes.{bytes_at}

-- a record of format 1: four bytes and three numbers of four bytes each
abbrev pub short_record : ℕ → ℕ → ℕ → ℕ → ℕ → ℕ → ℕ → List ℕ
short_record kind a b c first second third = (kind ∷ a ∷ b ∷ c ∷ []) ++ to_le_bytes w32 first ++ to_le_bytes w32 second ++ to_le_bytes w32 third

-- a record of format 2: four bytes, and numbers of four, eight, four and four bytes
abbrev pub long_record : ℕ → ℕ → ℕ → ℕ → ℕ → ℕ → ℕ → ℕ → List ℕ
long_record kind a b c first second third last =
    (kind ∷ a ∷ b ∷ c ∷ []) ++ to_le_bytes w32 first ++ to_le_bytes w64 second ++ to_le_bytes w32 third ++ to_le_bytes w32 last

-- a record of a format: only the second one has a last number
abbrev pub record_with : ℕ → ℕ → ℕ → ℕ → ℕ → ℕ → ℕ → ℕ → ℕ → List ℕ
record_with format kind a b c first second third last =
    if format == 1 then short_record kind a b c first second third else long_record kind a b c first second third last

-- the spelling of an entry in the log of a layout
abbrev pub record_of : Layout → LogEntry → List ℕ
record_of l (Out channel value) = record_with l.format 1 channel 0 0 (cast_unsigned w32 value) 0 0 0
record_of l (Ran event version steps start index) = record_with l.format 2 event version 0 steps start index 0

-- the number of four bytes from a place of a record on
abbrev pub number_from : ℕ → List ℕ → ℕ
number_from at bytes = from_le_bytes w32 (bytes_at at 4 bytes)

-- the tick at which a record's job started
abbrev pub start_in : ℕ → List ℕ → ℕ
start_in format bytes = if format == 1 then number_from 8 bytes else from_le_bytes w64 (bytes_at 8 8 bytes)

-- the number of a record's arrival among those of its event
abbrev pub index_in : ℕ → List ℕ → ℕ
index_in format bytes = number_from (if format == 1 then 12 else 16) bytes

-- the entry that the bytes of a record stand for, where they spell one
abbrev pub entry_of : Layout → List ℕ → LogEntry
entry_of l bytes =
    if slice_index bytes 0 == 1
    then Out (slice_index bytes 1) (cast_signed w32 (number_from 4 bytes))
    else Ran (slice_index bytes 1) (slice_index bytes 2) (number_from 4 bytes) (start_in l.format bytes) (index_in l.format bytes)

-- the event and the version of an entry exist
abbrev pub IsOf : Checked → LogEntry → Type 0
IsOf program (Out channel value) = Unit {0}
IsOf program (Ran event version steps start index) = HasVersion program event version

-- the last tick at which a job of a record may have started
abbrev pub most_start : ℕ → ℕ
most_start format = if format == 1 then 4294967295 else 4000000

-- the numbers of an entry have the ranges that its record takes
abbrev pub EntryFits : Layout → LogEntry → Type 0
EntryFits l (Out channel value) = FitsSigned w32 value
EntryFits l (Ran event version steps start index) = (steps < 2 ^ 32) × (start ≤ most_start l.format) × (index < 2 ^ 32)

-- these bytes spell an entry of the program
pub record IsSpelled (l : Layout) (program : Checked) (bytes : List ℕ) (entry : LogEntry) : Type 0 where
  pub exists : IsOf program entry
  pub fits : EntryFits l entry
  pub bytes_are : bytes ≡ record_of l entry

-- what is found is the entry that these bytes spell, if they spell one
pub record IsFound (l : Layout) (program : Checked) (bytes : List ℕ) (found : Option LogEntry) : Type 0 where
  pub spelled : IfSome found (IsSpelled l program bytes)
  pub only : (entry : LogEntry) → IsSpelled l program bytes entry → found ≡ Some entry

-- the bytes of a record
abbrev pub record_bytes : Layout → ℕ → List ℕ → List ℕ
record_bytes l place image = bytes_at (record_at l place) (record_len l) image
