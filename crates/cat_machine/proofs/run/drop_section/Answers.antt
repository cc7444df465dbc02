use Rattle.cat_machine.proofs.Dropping.{dropped}
use Rattle.cat_machine.proofs.run.drop_section.Goals as goal

pub returns : goal.returns
returns c = λ before unacted is. dropped c.args._code.now c.args.from before c.args.working.now c.stand.new.self unacted is c.stand.ensures
