use Rattle.std.proofs.Common.{ℕ, List, ◌≡◌, drop}
use Rattle.std.specs.List.{flat_map}
use Rattle.cn_object.specs.Regions.{version_entries}
use Rattle.cn_object.proofs.depths.versions_begin.Given as goal

abbrev pub invariant-loop-event : goal.invariant-loop-event
invariant-loop-event l = flat_map (λ (entries : List ℕ). entries) (drop l.event l.code.versions) ≡ version_entries l.code
