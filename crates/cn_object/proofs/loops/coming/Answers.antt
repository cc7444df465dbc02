use Rattle.std.proofs.Common.{arith}
use Rattle.cn_object.proofs.Coming.{coming_starts, coming_noted, coming_ends}
use Rattle.cn_object.proofs.loops.coming.Goals as goal

pub loop-pc-init : goal.loop-pc-init
loop-pc-init c = coming_starts c.args.code.now c.len-len.result c.in_ok-coming.coming.items c.len-len.ensures c.in_ok-coming.ensures

pub loop-pc-preserved : goal.loop-pc-preserved
loop-pc-preserved c =
    coming_noted c.args.code.now c.loop-pc.pc c.instr-instr.result c.target_of-target.result c.loop-pc.coming.items _ c.loop-pc.invariant c.instr-instr.ensures c.target_of-target.ensures
    c.note_target.ensures

pub returns : goal.returns
returns c = coming_ends c.args.code.now c.loop-pc.pc c.loop-pc.coming.items (omega (arith, c.loop-pc-test.false, c.len-len.ensures)) c.loop-pc.invariant
