use Rattle.std.proofs.Common.{below_more}
use Rattle.cn_object.specs.Loops.{LoopsAt}
use Rattle.cn_object.proofs.Files.{few_by}
use Rattle.cn_object.proofs.loops.loop_fault.Goals as goal

pub loop-pc-preserved : goal.loop-pc-preserved
loop-pc-preserved c = below_more (λ q. LoopsAt c.args.code.now q) c.loop-pc.pc c.loop-pc.invariant (few_by c.loops_at.result _ c.loops_at.ensures c.if-not-loops_at.false)
