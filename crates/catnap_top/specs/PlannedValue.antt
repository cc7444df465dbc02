-- A program with the least harvest for it.
use Rattle.cat_program.specs.Checked.{Checked}
use Rattle.cn_plan.specs.declared.answer.Least.{Least}

pub record PlannedValue : Type 0 where
  pub program : Checked
  pub plan : Least
