use Rattle.std.proofs.Common.{ℕ, ◌<◌}
use Rattle.std.specs.Prelude.{slice_index_or}
use Rattle.cn_object.specs.declared.parts.Parts.{Parts}
use Rattle.cn_object.specs.Reading.{AreWhole}
use Rattle.cn_object.proofs.reading.all_whole.Given as goal

abbrev pub invariant-loop-parts : goal.invariant-loop-parts
invariant-loop-parts l = (k : ℕ) (d : Parts) → k < l.parts-index → AreWhole (slice_index_or l.all k d)
