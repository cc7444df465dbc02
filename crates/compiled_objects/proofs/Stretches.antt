-- Stretches of code: what stands from one place up to another, by its form.
use Rattle.std.proofs.Common.{◌≡◌, ℕ, zero, suc, ◌+◌, ◌-◌, ◌≤◌, Bool, true, false, length}
use Rattle.std.specs.Prelude.{Option, Some, None, slice_get, pos, nat_le, if◌then◌else◌}
use Rattle.cat_machine.specs.declared.instr.Instr.{Instr}
use Rattle.cat_machine.specs.declared.instr.Instr.TheVariants as i
use Rattle.cat_machine.specs.CodeValue.{CodeValue}
use Rattle.cost_bounds.specs.Paths.{acts}
use Rattle.cn_object.specs.Operands.{HasOperands}
use Rattle.cn_object.specs.Depths.{taken, given}

-- code, with as many words and tasks, and the bounds of one region of it, which is a task's or a version's
pub record Setting : Type 0 where
  pub code : CodeValue
  pub words : ℕ
  pub posts : ℕ
  pub task : Bool
  pub low : ℕ
  pub high : ℕ

abbrev pub At : Setting → ℕ → Instr → Type 0
At s pc x = slice_get s.code.instrs pc ≡ Some x

-- an instruction that goes on to the next place, and neither begins a task
abbrev pub is_plain : Instr → Bool
is_plain (i.Jump to) = false
is_plain (i.JumpZero to) = false
is_plain (i.Turn to) = false
is_plain (i.Begin t) = false
is_plain i.End = false
is_plain _ = true

-- what an instruction needs that takes only operands above a floor
pub record Suits (s : Setting) (floor depth : ℕ) (x : Instr) : Type 0 where
  pub finds : floor + taken x ≤ depth
  pub room : depth ≤ 32
  pub acting : s.task ≡ true → acts x ≡ true → depth ≡ taken x
  pub operands : HasOperands s.words s.posts (length s.code.instrs) x
  pub payload : x ≡ i.Payload → s.task ≡ false

-- plain instructions, from one place and depth to another
pub data Plains (s : Setting) : ℕ → ℕ → ℕ → ℕ → ℕ → Type 0 where
  Same : {floor depth at end last : ℕ} → at ≡ end → depth ≡ last → Plains s floor depth at end last
  Next : {floor depth at end last : ℕ} → (x : Instr) → At s at x → is_plain x ≡ true → Suits s floor depth x → Plains s floor (depth - taken x + given x) (at + 1) end last → Plains s floor depth at end last

-- statements, from one place to another, both of this depth
pub data Stretch (s : Setting) : ℕ → ℕ → ℕ → Type 0 where
  Done : {floor at end : ℕ} → at ≡ end → Stretch s floor at end
  Then : {floor at end : ℕ} → (mid : ℕ) → Plains s floor floor at mid floor → Stretch s floor mid end → Stretch s floor at end
  Tests : {floor at end : ℕ} → (test mid : ℕ) → floor + 1 ≤ 32 → Plains s floor floor at test (floor + 1) → At s test (i.JumpZero mid) → Stretch s floor (test + 1) mid → Stretch s floor mid end → Stretch s floor at end
  Chooses : {floor at end : ℕ} → (test jump mid : ℕ) → floor + 1 ≤ 32 → Plains s floor floor at test (floor + 1) → At s test (i.JumpZero (jump + 1)) → Stretch s floor (test + 1) jump → At s jump (i.Jump mid) → Stretch s floor (jump + 1) mid → Stretch s floor mid end → Stretch s floor at end
  Loops : {floor at end : ℕ} → (test jump : ℕ) → s.task ≡ true → floor + 1 ≤ 32 → Plains s floor floor at test (floor + 1) → At s test (i.JumpZero (jump + 1)) → Stretch s floor (test + 1) jump → At s jump (i.Jump at) → Stretch s floor (jump + 1) end → Stretch s floor at end
  Turns : {floor at end : ℕ} → (n turn jump : ℕ) → turn ≡ at + 1 → s.task ≡ false → n ≤ 1000 → floor + 1 ≤ 32 → At s at (i.Push (pos n)) → At s turn (i.Turn (jump + 1)) → Stretch s (floor + 1) (turn + 1) jump → At s jump (i.Jump turn) → Stretch s floor (jump + 1) end → Stretch s floor at end

-- ---- depths

abbrev pub depth_after : Option Instr → ℕ → ℕ → ℕ
depth_after None pc depth = 0
depth_after (Some (i.Jump to)) pc depth = if nat_le to pc then depth - 1 else depth
depth_after (Some x) pc depth = depth - taken x + given x

-- the depth at a place of compiled code, by that of the place before: behind a jump back a loop's counter is gone
abbrev pub depth_at : CodeValue → ℕ → ℕ
depth_at code zero = 0
depth_at code (suc pc) = depth_after (slice_get code.instrs pc) pc (depth_at code pc)
