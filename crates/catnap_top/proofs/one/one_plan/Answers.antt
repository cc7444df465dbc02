use Rattle.catnap_top.proofs.OnePlan.{plans_agree}
use Rattle.catnap_top.proofs.one.one_plan.Goals as goal

pub returns : goal.returns
returns c = plans_agree c.one_plan_law.ensures.plan c.one_plan_law.ensures.spacing c.one_plan_law.ensures.either
