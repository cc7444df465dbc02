use Rattle.std.proofs.Common.{◌≡◌, ◌++◌, ◌-◌}
use Rattle.cn_object.specs.Reading.{read_started}
use Rattle.cn_object.proofs.reading.started.Given as goal

abbrev pub invariant-items : goal.invariant-items
invariant-items l = l.read.items ++ read_started (l.n - l.counter) l.rest ≡ read_started l.n l.bytes
