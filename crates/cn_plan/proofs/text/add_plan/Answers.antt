use Rattle.cn_plan.proofs.text.add_plan.Goals as goal

pub returns-in-Found-clause-text : goal.returns-in-Found-clause-text
returns-in-Found-clause-text g c = rw c.in-Found.is c.add_found.ensures.text
