use Rattle.std.proofs.Common.{◌≡◌, ◌++◌, ◌-◌}
use Rattle.cn_object.specs.Reading.{read_words}
use Rattle.cn_object.proofs.reading.words.Given as goal

abbrev pub invariant-items : goal.invariant-items
invariant-items l = l.read.items ++ read_words (l.n - l.counter) l.rest ≡ read_words l.n l.bytes
