use Rattle.std.proofs.Common.{◌∙◌, ap}
use Rattle.cat_machine.specs.declared.instr.Did.{Did}
use Rattle.cat_machine.specs.declared.instr.Did.TheVariants.{Went}
use Rattle.pipeline.proofs.After.{went_on}
use Rattle.pipeline.proofs.running.goes_on.Goals as goal

pub returns-in-Went : goal.returns-in-Went
returns-in-Went c = λ _. went_on c.args._program.now c.args.code.now c.args.working.now c.step.new.working (rw c.in-Went.is at c.step.ensures.does) (rw c.in-Went.is at (c.step.ensures.means c.args._program.now c.requires.fits)) (c.step.ensures.keeps c.args._program.now c.requires.fits)
