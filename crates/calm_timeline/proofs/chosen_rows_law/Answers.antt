use Rattle.calm_timeline.proofs.ChosenRows.{vector_rows, chosen_rows}
use Rattle.calm_timeline.proofs.chosen_rows_law.Goals as goal

pub returns-clause-vector : goal.returns-clause-vector
returns-clause-vector c = vector_rows c.degraded_loads_law.ensures

pub returns-clause-chosen : goal.returns-clause-chosen
returns-clause-chosen c = chosen_rows c.degraded_loads_law.ensures
