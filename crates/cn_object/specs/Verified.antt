-- Code that a machine can run without being stuck.
use Rattle.std.specs.Prelude.{◌≡◌, ℕ, ◌<◌, ◌≤◌, List, [], length, Some, slice_get}
use Rattle.cat_machine.specs.CodeValue.{CodeValue}
use Rattle.cost_bounds.specs.Paths.{HandlerFrom}
use Rattle.cn_object.specs.Operands.{OperandsAt}
use Rattle.cn_object.specs.Regions.{version_entries, AreEntries, RegionAt}
use Rattle.cn_object.specs.Depths.{StackAt}
use Rattle.cn_object.specs.Loops.{LoopsAt}

-- a version that begins here executes at most 1,000,000 instructions
abbrev pub ShortAt : CodeValue → ℕ → Type 0
ShortAt code pc = (k : ℕ) → slice_get (version_entries code) k ≡ Some pc → (path : List ℕ) → HandlerFrom code pc [] path → length path ≤ 1000000

-- a rule holds at each place
abbrev pub Everywhere : CodeValue → (ℕ → Type 0) → Type 0
Everywhere code rule = (pc : ℕ) → pc < length code.instrs → rule pc

-- with this many words and tasks
pub record IsVerified (words tasks : ℕ) (code : CodeValue) : Type 0 where
  pub operands : Everywhere code (OperandsAt words tasks code)
  pub entries : AreEntries code
  pub regions : Everywhere code (RegionAt code)
  pub stacks : Everywhere code (StackAt code)
  pub loops : Everywhere code (LoopsAt code)
  pub short : Everywhere code (ShortAt code)
