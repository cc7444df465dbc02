use Rattle.demand_core.proofs.Ample.{rbf_grows, ample_supply, ample_time}
use Rattle.demand_core.proofs.ample_law.Goals as goal

pub returns-clause-grows : goal.returns-clause-grows
returns-clause-grows c = rbf_grows

pub returns-clause-energy : goal.returns-clause-energy
returns-clause-energy c = ample_supply

pub returns-clause-time : goal.returns-clause-time
returns-clause-time c = ample_time
