use Rattle.std.proofs.Common.{◌≡◌, ◌++◌, ◌-◌}
use Rattle.cat_machine.specs.CodeValue.{entries_of}
use Rattle.cn_object.specs.Reading.{read_versions}
use Rattle.cn_object.proofs.reading.versions.Given as goal

abbrev pub invariant-items : goal.invariant-items
invariant-items l = entries_of l.read.items ++ read_versions (l.n - l.counter) l.rest ≡ read_versions l.n l.bytes
