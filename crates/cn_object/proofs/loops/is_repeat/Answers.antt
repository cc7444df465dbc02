use Rattle.std.proofs.Common.{arith}
use Rattle.cn_object.proofs.Files.{few_by}
use Rattle.cn_object.proofs.Repeats.{repeat_by, repeat_comes}
use Rattle.cn_object.proofs.loops.is_repeat.Goals as goal

pub returns : goal.returns
returns c = (
  λ t. repeat_by c.args.code.now c.args.coming.now c.args.turn c.args.end c.instr.result c.instr-else-not-pushes_few.result c.requires.coming (omega arith) (omega arith)
      c.instr.ensures (few_by c.pushes_few.result _ c.pushes_few.ensures c.if-not-pushes_few.false) c.instr-else-not-pushes_few.ensures (few_by c.is_jump_to.result _ c.is_jump_to.ensures c.if-not-is_jump_to.false)
      (c.has_depth.ensures.0 t),
  λ r. c.has_depth.ensures.1 (repeat_comes c.args.code.now c.args.coming.now c.args.turn c.args.end c.requires.coming c.requires.within r),
)
