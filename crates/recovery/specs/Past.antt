-- What a board went through, and what it had committed at each moment of it.
use Rattle.std.specs.Prelude.{ℕ, ◌+◌, List, length, take, Bool, nat_lt, slice_get}
use Rattle.std.specs.List.{range_with_len, position_or_len}
use Rattle.std.specs.Option.{option_map_or}
use Rattle.cat_program.specs.declared.outs.LogEntry.{LogEntry}
use Rattle.nv_memory.specs.declared.layout.Layout.{Layout}
use Rattle.nv_memory.specs.declared.entry.Entry.{Entry}
use Rattle.nv_memory.specs.Board.{State, Start, image_by}
use Rattle.checkpoint_slots.specs.declared.slot.Slot.{Slot}
use Rattle.checkpoint_slots.specs.Image.{committed_slot}
use Rattle.nv_log.specs.Record.{record_bytes, entry_of}

-- where things stand in the image, the image with which the board began, and each operation that was done or lost
pub record Past : Type 0 where
  pub layout : Layout
  pub first : List ℕ
  pub timeline : List Entry

abbrev pub past_of : Layout → Start → State → Past
past_of layout start state = record { layout = layout; first = start.image; timeline = state.timeline }

-- the image after the first n entries
unfoldable pub image_at : Past → ℕ → List ℕ
image_at past n = image_by (take n past.timeline) past.first

-- the slot that it has committed
unfoldable pub committed_at : Past → ℕ → Slot
committed_at past n = committed_slot past.layout (image_at past n)

-- the image and its slot after all entries
abbrev pub last_image : Past → List ℕ
last_image past = image_at past (length past.timeline)

abbrev pub last_slot : Past → Slot
last_slot past = committed_at past (length past.timeline)

-- the entry of the log at a place, after all
abbrev pub entry_in : Past → ℕ → LogEntry
entry_in past place = entry_of past.layout (record_bytes past.layout place (last_image past))

-- the tick at which an operation ended
abbrev pub end_of : Entry → ℕ
end_of entry = entry.tick + entry.ticks

-- after entry number k the record at a place is committed
abbrev pub has_record : Past → ℕ → ℕ → Bool
has_record past place k = nat_lt place (committed_at past (k + 1)).len

-- the number of the first entry after which it is
abbrev pub commit_of : Past → ℕ → ℕ
commit_of past place = position_or_len (has_record past place) (range_with_len 0 (length past.timeline))

-- the tick at which that entry ended
unfoldable pub done_at : Past → ℕ → ℕ
done_at past place = option_map_or end_of (slice_get past.timeline (commit_of past place)) 0
