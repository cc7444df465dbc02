use Rattle.std.proofs.Common.{◌-◌}
use Rattle.cn_object.specs.Lengths.{AreLengths}
use Rattle.cn_object.proofs.lengths.lengths.Given as goal

abbrev pub invariant-loop-done : goal.invariant-loop-done
invariant-loop-done l = AreLengths l.code (l.len - l.done) l.lengths.items
