use Rattle.demand_core.proofs.Closing.{energy_closes, time_closes}
use Rattle.demand_core.proofs.closing_law.Goals as goal

pub returns-clause-energy : goal.returns-clause-energy
returns-clause-energy c base loads window l are is feasible = energy_closes base loads window are is feasible l

pub returns-clause-time : goal.returns-clause-time
returns-clause-time c base loads window l are is feasible some enough = time_closes base loads window are is feasible l some enough
