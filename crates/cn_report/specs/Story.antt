-- The lines of what happened: the arrivals that were dropped, and what each entry of the timeline shows.
use Rattle.std.specs.Prelude.{ℕ, ◌+◌, List, [], ◌∷◌, length, if◌then◌else◌, ◌==◌, slice_get, codes, decimal}
use Rattle.std.specs.List.{flat_map}
use Rattle.std.specs.Option.{option_map_or}
use Rattle.cat_program.specs.declared.headers.Event.{Event}
use Rattle.event_arrivals.specs.declared.arrival.Dropped.{Dropped}
use Rattle.nv_memory.specs.declared.entry.Op.{Op}
use Rattle.nv_memory.specs.declared.entry.Op.TheVariants.{Instr, Emit, Write, Wake, Sleep}
use Rattle.nv_memory.specs.declared.entry.Entry.{Entry}
use Rattle.checkpoint_slots.specs.declared.slot.Slot.{Slot}
use Rattle.cn_base.specs.Texts.{line, in_turn}
use Rattle.cn_report.specs.Report.{name_of}
use Rattle.recovery.specs.Past.{Past, committed_at, end_of}

abbrev pub dropped_line : List Event → Dropped → List ℕ
dropped_line headers dropped = line (codes "dropped" ∷ decimal dropped.tick ∷ name_of (slice_get headers dropped.event) ∷ [])

abbrev pub dropped_text : List Event → List Dropped → List ℕ
dropped_text headers dropped = flat_map (dropped_line headers) dropped

abbrev pub lost_line : ℕ → List ℕ
lost_line tick = line (codes "lost" ∷ decimal tick ∷ [])

-- a word, a tick, and how many records and steps are committed
abbrev pub slot_line : List ℕ → ℕ → Slot → List ℕ
slot_line word tick slot = line (word ∷ decimal tick ∷ decimal slot.len ∷ decimal slot.steps ∷ [])

-- of an operation that was done: a wake is a boot, and a write of the gate, which stands at place 0, is a commit
abbrev pub done_line : Op → ℕ → Slot → List ℕ
done_line (Instr kind pc) tick slot = []
done_line (Emit pc at left) tick slot = []
done_line (Write at left) tick slot = if at == 0 then slot_line (codes "commit") tick slot else []
done_line Wake tick slot = slot_line (codes "boot") tick slot
done_line Sleep tick slot = []

-- of an entry, by the tick at which it ended and the slot that was committed then
abbrev pub entry_line : Slot → Entry → List ℕ
entry_line slot entry = if entry.lost then lost_line (end_of entry) else done_line entry.op (end_of entry) slot

-- the line of entry number k, or nothing
unfoldable pub moment_line : Past → ℕ → List ℕ
moment_line past k = option_map_or (entry_line (committed_at past (k + 1))) (slice_get past.timeline k) []

abbrev pub story_text : Past → List ℕ
story_text past = in_turn (moment_line past) (length past.timeline)
