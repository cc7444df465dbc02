use Rattle.same_program.proofs.Own.{own_place, own_step, one_list}
use Rattle.same_program.proofs.laws.own_lists_law.Goals as goal

pub returns-clause-place : goal.returns-clause-place
returns-clause-place c = own_place

pub returns-clause-first : goal.returns-clause-first
returns-clause-first c = λ p. tt

pub returns-clause-step : goal.returns-clause-step
returns-clause-step c = own_step

pub returns-clause-one : goal.returns-clause-one
returns-clause-one c = one_list
