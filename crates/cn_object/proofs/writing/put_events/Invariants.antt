use Rattle.std.proofs.Common.{◌≡◌, ◌++◌, ◌<◌, ℕ, List, drop}
use Rattle.std.specs.Prelude.{slice_index_or}
use Rattle.std.specs.List.{All, flat_map}
use Rattle.cn_object.specs.Spelling.{IsPlace, event_bytes}
use Rattle.cn_object.proofs.writing.put_events.Given as goal

abbrev pub invariant-loop-event : goal.invariant-loop-event
invariant-loop-event l =
    (l.out.items ++ flat_map event_bytes (drop l.event l.code.versions) ≡ l.fn.out.items ++ flat_map event_bytes l.code.versions)
    × ((k : ℕ) (d : List ℕ) → k < l.event → All IsPlace (slice_index_or l.code.versions k d))
