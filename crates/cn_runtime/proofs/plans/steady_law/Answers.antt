use Rattle.cn_runtime.proofs.SteadyRows.{steady_choices}
use Rattle.cn_runtime.proofs.plans.steady_law.Goals as goal

pub returns-clause-choices : goal.returns-clause-choices
returns-clause-choices c = steady_choices c.one_row_law.ensures.chosen

pub returns-clause-refused : goal.returns-clause-refused
returns-clause-refused c = λ program device number fault is. c.one_row_law.ensures.refused program is.bounds device _ number fault is.refused
