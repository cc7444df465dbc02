use Rattle.std.proofs.Common.{◌≡◌, drop}
use Rattle.std.specs.Prelude.{nat_lt}
use Rattle.std.specs.List.{list_any}
use Rattle.cat_conditions.specs.Counts.{version_run}
use Rattle.cat_types.proofs.rules.has_long_version.Given as goal

abbrev pub invariant-loop-version : goal.invariant-loop-version
invariant-loop-version l = list_any (λ version. nat_lt 1000000 (version_run version)) (drop l.version-index l.versions)
    ≡ list_any (λ version. nat_lt 1000000 (version_run version)) l.versions
