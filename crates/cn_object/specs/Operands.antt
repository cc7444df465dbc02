-- The words, tasks and places that instructions name exist.
use Rattle.std.specs.Prelude.{◌≡◌, ℕ, ◌+◌, ◌<◌, ◌≤◌, length, Option, Some, None, slice_get}
use Rattle.cat_machine.specs.declared.instr.Instr.{Instr}
use Rattle.cat_machine.specs.declared.instr.Instr.TheVariants as i
use Rattle.cat_machine.specs.CodeValue.{CodeValue}

-- the place to which an instruction may go
abbrev pub target_of : Instr → Option ℕ
target_of (i.Jump to) = Some to
target_of (i.JumpZero to) = Some to
target_of (i.Turn to) = Some to
target_of _ = None

-- among this many words, tasks and instructions
abbrev pub HasOperands : ℕ → ℕ → ℕ → Instr → Type 0
HasOperands words tasks count (i.Load w) = w < words
HasOperands words tasks count (i.Store w) = w < words
HasOperands words tasks count (i.LoadAt base len) = (1 ≤ len) × (base + len ≤ words)
HasOperands words tasks count (i.StoreAt base len) = (1 ≤ len) × (base + len ≤ words)
HasOperands words tasks count (i.Begin t) = t < tasks
HasOperands words tasks count (i.Post t) = t < tasks
HasOperands words tasks count (i.Jump to) = to < count
HasOperands words tasks count (i.JumpZero to) = to < count
HasOperands words tasks count (i.Turn to) = to < count
HasOperands words tasks count _ = Unit {0}

-- with the operands of the instruction at a place
abbrev pub OperandsAt : ℕ → ℕ → CodeValue → ℕ → Type 0
OperandsAt words tasks code pc = (i : Instr) → slice_get code.instrs pc ≡ Some i → HasOperands words tasks (length code.instrs) i
