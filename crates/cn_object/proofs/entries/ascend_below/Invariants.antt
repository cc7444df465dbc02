use Rattle.std.proofs.Common.{ℕ, ◌<◌, ◌+◌}
use Rattle.std.specs.Prelude.{slice_index, slice_index_or}
use Rattle.cn_object.proofs.entries.ascend_below.Given as goal

abbrev pub invariant-loop-k : goal.invariant-loop-k
invariant-loop-k l = (j : ℕ) → j < l.k → slice_index l.entries j < slice_index_or l.entries (j + 1) l.count
