-- The entries that a timeline keeps, and for how many it has room.
use Rattle.std.specs.Prelude.{ℕ, List, flat_map}
use Rattle.nv_memory.specs.declared.entry.Entry.{Entry}
use Rattle.board_core.specs.declared.timeline.Timeline.{Timeline}
use Rattle.board_core.specs.Records.{entries_by}

abbrev pub entries_of : Timeline → List Entry
entries_of t = flat_map (entries_by t.cap t.left.items) t.records.items

abbrev pub room_of : Timeline → ℕ
room_of t = t.most
