use Rattle.std.proofs.Common.{◌<◌, length, arith}
use Rattle.std.proofs.lemmas.Option.{get_or_from_slice_get}
use Rattle.cn_object.specs.Spelling.{HasRoom, instr_bytes}
use Rattle.cn_object.proofs.Ranges.{all_upto}
use Rattle.cn_object.proofs.Lists.{flat_goes}
use Rattle.cn_object.proofs.writing.put_instrs.Goals as goal

pub loop-pc-preserved : goal.loop-pc-preserved
loop-pc-preserved c =
    let h : c.loop-pc.pc < length c.args.code.now.instrs = omega (arith, c.loop-pc-test.true, c.len-pc-end.ensures) in
    let is = get_or_from_slice_get c.args.code.now.instrs c.loop-pc.pc c.instr-instr.result _ c.instr-instr.ensures in (
      flat_goes instr_bytes c.args.code.now.instrs c.loop-pc.pc c.instr-instr.result _ c.loop-pc.out.items c.put_instr.new.out.items h
          is c.loop-pc.invariant.0 c.in_ok-put_instr.ensures.text,
      all_upto HasRoom c.args.code.now.instrs c.loop-pc.pc c.instr-instr.result h is c.put_instr.ensures.room c.loop-pc.invariant.1,
    )
