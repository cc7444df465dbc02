use Rattle.std.proofs.Common.{◌≡◌, ◌++◌, ◌<◌, ◌^◌, ℕ, drop}
use Rattle.std.specs.Prelude.{slice_index_or}
use Rattle.cn_object.specs.Spelling.{IsPlace, tasks_bytes}
use Rattle.cn_object.proofs.writing.put_tasks.Given as goal

abbrev pub invariant-loop-t : goal.invariant-loop-t
invariant-loop-t l =
    (l.out.items ++ tasks_bytes (drop l.t l.started) (drop l.t l.entries) ≡ l.fn.out.items ++ tasks_bytes l.started l.entries)
    × ((k d : ℕ) → k < l.t → slice_index_or l.started k d < 2 ^ 16)
    × ((k d : ℕ) → k < l.t → IsPlace (slice_index_or l.entries k d))
