-- Where code may begin.
use Rattle.std.specs.Prelude.{◌≡◌, ℕ, ◌+◌, List, Some, slice_get}
use Rattle.cat_machine.specs.declared.instr.Instr.{Instr}
use Rattle.cat_machine.specs.declared.instr.Instr.TheVariants as i

-- the instruction before a place, if there is one, is an end
abbrev pub FollowsEnd : List Instr → ℕ → Type 0
FollowsEnd instrs pc = (k : ℕ) → pc ≡ k + 1 → slice_get instrs k ≡ Some i.End
