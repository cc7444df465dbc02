use Rattle.std.proofs.Common.{◌≡◌, ◌++◌, ◌-◌}
use Rattle.cn_object.specs.Reading.{read_instrs}
use Rattle.cn_object.proofs.reading.instrs.Given as goal

abbrev pub invariant-items : goal.invariant-items
invariant-items l = l.read.items ++ read_instrs (l.n - l.counter) l.rest ≡ read_instrs l.n l.bytes
