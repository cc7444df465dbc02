use Rattle.std.proofs.Common.{◌≡◌, ◌<◌, length, below_more, arith}
use Rattle.cn_object.specs.Depths.{StackAt, StackIs}
use Rattle.cn_object.proofs.Bringing.{stack_is_one, fitting_of, stack_of, summary_goes, depths_at_end}
use Rattle.cn_object.proofs.Files.{few_by, elim_false}
use Rattle.cn_object.proofs.depths.pass.Goals as goal

pub returns-in_default : goal.returns-in_default
returns-in_default c =
    let code = c.args.code.now in
    let pc = c.loop-pc.pc in
    let low : pc < length code.instrs = omega (arith, c.loop-pc-test.true, c.len-pc-end.ensures) in
    let within : pc < length c.loop-pc.brought = omega (arith, low, c.loop-pc.invariant.0.size) in
    record {
      within = low;
      fails = λ stack. c.in_default.not-One stack.0 (stack_is_one code c.loop-pc.brought pc pc c.loop-pc.invariant.0 (omega arith) within stack);
      before = c.loop-pc.invariant.1;
    }

pub returns-then-not-fits : goal.returns-then-not-fits
returns-then-not-fits c =
    let code = c.args.code.now in
    let pc = c.loop-pc.pc in
    let low : pc < length code.instrs = omega (arith, c.loop-pc-test.true, c.len-pc-end.ensures) in
    record {
      within = low;
      fails = λ stack. elim_false c.fits.result _ c.fits.ensures c.if-not-fits.true
          (fitting_of code c.loop-pc.brought c.args.versions pc c.in-One.depth c.instr-instr.result c.requires.versions c.loop-pc.invariant.0 low c.instr-instr.ensures c.in-One.is stack);
      before = c.loop-pc.invariant.1;
    }

pub loop-pc-preserved : goal.loop-pc-preserved
loop-pc-preserved c =
    let code = c.args.code.now in
    let pc = c.loop-pc.pc in
    let low : pc < length code.instrs = omega (arith, c.loop-pc-test.true, c.len-pc-end.ensures) in
    let stack : StackIs code pc c.in-One.depth =
    stack_of code c.loop-pc.brought c.args.versions pc c.in-One.depth c.instr-instr.result c.requires.versions c.loop-pc.invariant.0 low c.instr-instr.ensures c.in-One.is
    (few_by c.fits.result _ c.fits.ensures c.if-not-fits.false) in (
      summary_goes code pc c.in-One.depth c.instr-instr.result c.loop-pc.brought c.lead.new.brought c.loop-pc.invariant.0 c.instr-instr.ensures stack.is c.lead.ensures,
      below_more (λ q. StackAt code q) pc c.loop-pc.invariant.1 (c.in-One.depth, stack),
    )

pub returns : goal.returns
returns c =
    let code = c.args.code.now in
    let n = c.loop-pc.pc in
    let size : n ≡ length code.instrs = omega (arith, c.loop-pc-test.false, c.loop-pc.auto.pc-end, c.len-pc-end.ensures) in (
      λ pc low. c.loop-pc.invariant.1 pc (omega (arith, low, size)),
      depths_at_end code c.loop-pc.brought n size c.loop-pc.invariant.0 c.loop-pc.invariant.1,
    )
