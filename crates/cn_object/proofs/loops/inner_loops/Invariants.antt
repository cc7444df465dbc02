use Rattle.cn_object.specs.Looping.{AreInner, IsLatest}
use Rattle.cn_object.proofs.loops.inner_loops.Given as goal

abbrev pub invariant-loop-pc : goal.invariant-loop-pc
invariant-loop-pc l = AreInner l.code l.pc l.inner.items × IsLatest l.code l.pc l.latest
