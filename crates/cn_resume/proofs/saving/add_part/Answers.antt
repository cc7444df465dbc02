use Rattle.std.proofs.Common.{arith}
use Rattle.cn_resume.proofs.Taken.{part_of}
use Rattle.cn_resume.proofs.saving.add_part.Goals as goal

pub returns-clause-text : goal.returns-clause-text
returns-clause-text g c =
    let image = (g.B.Board.state c.args.board.now).image in
    rw (part_of image c.loop-k.part c.args.from c.args.count c.requires.within (omega (arith, c.requires.few, c.loop-k.invariant.size)) (λ i below. c.loop-k.invariant.taken i (omega arith))) at c.text.ensures.text
