use Rattle.std.proofs.Common.{arith}
use Rattle.cn_object.proofs.Files.{few_by, elim_false}
use Rattle.cn_object.proofs.Spanning.{suits_at, span_more}
use Rattle.cn_object.proofs.regions.span_fault.Goals as goal

pub returns-then-not-suits : goal.returns-then-not-suits
returns-then-not-suits c =
    (omega arith, omega arith, λ s. elim_false c.suits.result _ c.suits.ensures c.if-not-suits.true (s c.instr-instr.result c.instr-instr.ensures), c.loop-pc.invariant)

pub loop-pc-preserved : goal.loop-pc-preserved
loop-pc-preserved c =
    span_more c.args.code.now c.args.span c.loop-pc.pc c.loop-pc.invariant (suits_at c.args.code.now c.args.span c.loop-pc.pc c.instr-instr.result c.instr-instr.ensures (few_by c.suits.result _ c.suits.ensures c.if-not-suits.false))

pub returns : goal.returns
returns c = λ pc a b. c.loop-pc.invariant pc a (omega (arith, b))
