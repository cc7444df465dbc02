use Rattle.std.proofs.Common.{◌≡◌, ◌++◌, ◌<◌, ℕ, drop}
use Rattle.std.specs.Prelude.{slice_index_or}
use Rattle.std.specs.List.{flat_map}
use Rattle.std.specs.Int.{w32, to_le_bytes}
use Rattle.cn_object.specs.Spelling.{IsPlace, event_bytes}
use Rattle.cn_object.proofs.writing.put_event.Given as goal

abbrev pub invariant-loop-entry : goal.invariant-loop-entry
invariant-loop-entry l =
    (l.out.items ++ flat_map (to_le_bytes w32) (drop l.entry-index l.entries) ≡ l.fn.out.items ++ event_bytes l.entries)
    × ((k d : ℕ) → k < l.entry-index → IsPlace (slice_index_or l.entries k d))
