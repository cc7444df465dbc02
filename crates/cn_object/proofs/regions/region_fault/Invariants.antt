use Rattle.std.proofs.Common.{ℕ, ◌<◌, length}
use Rattle.std.specs.Prelude.{slice_index_or}
use Rattle.cn_object.specs.Regions.{all_entries, RegionAt}
use Rattle.cn_object.proofs.regions.region_fault.Given as goal

abbrev pub invariant-loop-k : goal.invariant-loop-k
invariant-loop-k l = (q : ℕ) → q < slice_index_or (all_entries l.code) l.k (length l.code.instrs) → RegionAt l.code q
