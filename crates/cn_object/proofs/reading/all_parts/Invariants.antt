use Rattle.std.proofs.Common.{◌≡◌, ◌++◌, ◌-◌}
use Rattle.cn_object.specs.Reading.{read_parts}
use Rattle.cn_object.proofs.reading.all_parts.Given as goal

abbrev pub invariant-items : goal.invariant-items
invariant-items l = l.read.items ++ read_parts (l.n - l.counter) l.rest ≡ read_parts l.n l.bytes
