use Rattle.std.proofs.Common.{◌-◌}
use Rattle.cn_object.proofs.Acting.{SoonFrom}
use Rattle.cn_object.proofs.loops.acting_soon.Given as goal

abbrev pub invariant-loop-done : goal.invariant-loop-done
invariant-loop-done l = SoonFrom l.code (l.len - l.done) l.soon.items
