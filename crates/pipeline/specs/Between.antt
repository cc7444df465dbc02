-- Working states of a program's code, and what an instruction makes of them.
use Rattle.std.specs.Prelude.{◌≡◌, ℕ, Option, Some, None}
use Rattle.cat_program.specs.Checked.{Checked}
use Rattle.cat_machine.specs.declared.instr.Did.{Did}
use Rattle.cat_machine.specs.declared.instr.Did.TheVariants.{Went, Acted, Ended, Emitted}
use Rattle.cat_machine.specs.declared.instr.Mode.TheVariants.{Task}
use Rattle.cat_machine.specs.CodeValue.{CodeValue}
use Rattle.cat_machine.specs.Held.{Held}
use Rattle.cat_machine.specs.Machine.{step_of}
use Rattle.cat_machine.specs.Fits.{Fits, IsIdle}

-- between two sections, with no handler that runs
pub record IsBetween (p : Checked) (code : CodeValue) (h : Held) : Type 0 where
  pub fits : Fits p code h
  pub idle : IsIdle p h

-- in a section or before it, with no handler that runs
pub record IsInTask (p : Checked) (code : CodeValue) (h : Held) : Type 0 where
  pub fits : Fits p code h
  pub free : h.kept ≡ None

-- in a handler
pub record IsHandling (p : Checked) (code : CodeValue) (h : Held) : Type 0 where
  pub fits : Fits p code h
  pub kept : Option ℕ
  pub keeps : h.kept ≡ Some kept

-- a section that goes on after an instruction
pub record GoesOn (p : Checked) (code : CodeValue) (h after : Held) : Type 0 where
  pub step : step_of Task code h ≡ Some (record { did = Went; after = after })
  pub there : IsInTask p code after

-- after an instruction of a handler
abbrev pub Leaves : Checked → CodeValue → Did → Held → Type 0
Leaves p code Went after = IsHandling p code after
Leaves p code (Emitted channel value) after = IsHandling p code after
Leaves p code Ended after = IsBetween p code after
Leaves p code Acted after = IsBetween p code after
