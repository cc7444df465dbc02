use Rattle.cat_machine.proofs.Firsts.{resting_fits}
use Rattle.cat_machine.proofs.laws.resting_states_fit.Goals as goal

pub returns : goal.returns
returns c = resting_fits
