use Rattle.std.proofs.Common.{ℕ, List, ◌<◌, get_or}
use Rattle.cn_object.specs.Spelling.{HasVersions}
use Rattle.cn_object.proofs.reading.have_versions.Given as goal

abbrev pub invariant-loop-event : goal.invariant-loop-event
invariant-loop-event l = (k : ℕ) (d : List ℕ) → k < l.event → HasVersions (get_or l.code.versions k d)
