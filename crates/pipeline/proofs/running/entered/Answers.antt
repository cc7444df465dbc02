use Rattle.std.proofs.Common.{ap}
use Rattle.cat_machine.specs.Held.{Held}
use Rattle.pipeline.proofs.running.entered.Goals as goal

pub returns : goal.returns
returns c = record {
  fits = c.enter.ensures.keeps c.args._program.now c.requires.between.fits;
  kept = c.args.working.now.place;
  keeps = ap (λ (h : Held). h.kept) c.enter.ensures.state.2;
}
