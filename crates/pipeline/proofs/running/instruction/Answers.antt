use Rattle.pipeline.proofs.After.{instruction_leaves}
use Rattle.pipeline.proofs.running.instruction.Goals as goal

pub returns : goal.returns
returns c = instruction_leaves c.args._program.now c.args.code.now c.args.working.now c.step.new.working c.step.result c.requires (c.step.ensures.means c.args._program.now c.requires.fits) (c.step.ensures.keeps c.args._program.now c.requires.fits)
