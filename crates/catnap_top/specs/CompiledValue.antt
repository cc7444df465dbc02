-- A program with its code.
use Rattle.cat_program.specs.Checked.{Checked}
use Rattle.cat_machine.specs.CodeValue.{CodeValue}

pub record CompiledValue : Type 0 where
  pub program : Checked
  pub code : CodeValue
