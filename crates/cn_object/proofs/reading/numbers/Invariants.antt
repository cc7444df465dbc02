use Rattle.std.proofs.Common.{◌≡◌, ◌++◌, ◌-◌}
use Rattle.cn_object.specs.Reading.{read_numbers}
use Rattle.cn_object.proofs.reading.numbers.Given as goal

abbrev pub invariant-items : goal.invariant-items
invariant-items l = l.read.items ++ read_numbers l.step (l.n - l.counter) l.rest ≡ read_numbers l.step l.n l.bytes
