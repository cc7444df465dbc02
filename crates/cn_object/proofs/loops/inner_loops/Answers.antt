use Rattle.std.proofs.Common.{subst, sym}
use Rattle.cn_object.specs.Looping.{IsLatest}
use Rattle.cn_object.proofs.Inner.{inner_more, latest_next}
use Rattle.cn_object.proofs.loops.inner_loops.Goals as goal

pub loop-pc-preserved : goal.loop-pc-preserved
loop-pc-preserved c = (
  inner_more c.args.code.now c.loop-pc.pc c.loop-pc.inner.items c.push.new.self.items c.still_around-around.result c.loop-pc.invariant.0 c.still_around-around.ensures c.in_ok-push.ensures.items,
  subst (IsLatest c.args.code.now _) (sym c.latest_of-latest.ensures) (latest_next c.args.code.now c.loop-pc.pc c.instr-instr.result c.still_around-around.result c.instr-instr.ensures c.still_around-around.ensures),
)
