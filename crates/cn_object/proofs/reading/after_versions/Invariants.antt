use Rattle.std.proofs.Common.{◌≡◌, ◌-◌}
use Rattle.cn_object.specs.Reading.{after_versions}
use Rattle.cn_object.proofs.reading.after_versions.Given as goal

abbrev pub invariant-items : goal.invariant-items
invariant-items l = after_versions (l.n - l.counter) l.rest ≡ after_versions l.n l.bytes
