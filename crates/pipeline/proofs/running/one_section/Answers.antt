use Rattle.pipeline.proofs.After.{section_leaves}
use Rattle.pipeline.proofs.running.one_section.Goals as goal

pub returns : goal.returns
returns c =
    let b = c.requires in
    section_leaves c.args._program.now c.args.code.now c.args.working.now c.section.new.working c.section.result b (c.section.ensures.keeps c.args._program.now b.fits) (c.section.ensures.is c.args._program.now b.idle.state b.fits b.idle.corresponds)
