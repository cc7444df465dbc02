use Rattle.std.proofs.Common.{◌≡◌, ◌+◌, ◌≤◌, drop}
use Rattle.cat_conditions.specs.Counts.{versions_size}
use Rattle.cat_types.specs.Capped.{capped}
use Rattle.cat_types.proofs.counts.versions_size.Given as goal

abbrev pub invariant-loop-version : goal.invariant-loop-version
invariant-loop-version l = record {
  same : capped (l.sum + versions_size (drop l.version-index l.versions)) ≡ capped (versions_size l.versions);
  small : l.sum ≤ 1000001;
}
