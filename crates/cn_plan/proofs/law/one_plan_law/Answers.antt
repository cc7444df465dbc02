use Rattle.cn_plan.proofs.OnePlan.{one_plan, one_spacing, plan_or_spacing}
use Rattle.cn_plan.proofs.law.one_plan_law.Goals as goal

pub returns-clause-plan : goal.returns-clause-plan
returns-clause-plan c = one_plan c.one_bounds_law.ensures c.one_choice_law.ensures.choice

pub returns-clause-spacing : goal.returns-clause-spacing
returns-clause-spacing c = one_spacing c.one_choice_law.ensures.reason

pub returns-clause-either : goal.returns-clause-either
returns-clause-either c = plan_or_spacing c.one_bounds_law.ensures
