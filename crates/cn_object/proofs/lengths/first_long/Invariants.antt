use Rattle.cn_object.specs.Lengths.{AreShort}
use Rattle.cn_object.proofs.lengths.first_long.Given as goal

abbrev pub invariant-loop-k : goal.invariant-loop-k
invariant-loop-k l = AreShort l.entries l.lengths l.k
