use Rattle.cn_object.proofs.Coming.{IsComing}
use Rattle.cn_object.proofs.loops.coming.Given as goal

abbrev pub invariant-loop-pc : goal.invariant-loop-pc
invariant-loop-pc l = IsComing l.code l.pc l.coming.items
