-- The depth of the operand stack at each place.
use Rattle.std.specs.Prelude.{◌≡◌, ℕ, ◌+◌, ◌-◌, ◌<◌, ◌≤◌, List, [], ◌∷◌, true, Some, slice_get}
use Rattle.cat_machine.specs.declared.instr.Instr.{Instr}
use Rattle.cat_machine.specs.declared.instr.Instr.TheVariants as i
use Rattle.cat_machine.specs.CodeValue.{CodeValue}
use Rattle.cost_bounds.specs.Paths.{acts}
use Rattle.cn_object.specs.declared.depth.Way.{Way}
use Rattle.cn_object.specs.Regions.{IsEntry, versions_begin}

-- how many operands an instruction takes
abbrev pub taken : Instr → ℕ
taken (i.Signed sign) = 1
taken (i.Operate operator) = 2
taken (i.JumpZero to) = 1
taken (i.Turn to) = 1
taken (i.LoadAt base len) = 1
taken (i.Store w) = 1
taken (i.StoreAt base len) = 2
taken (i.Out c) = 1
taken _ = 0

-- how many it gives where it goes on to the next place
abbrev pub given : Instr → ℕ
given (i.Push n) = 1
given (i.Load w) = 1
given i.Payload = 1
given (i.Signed sign) = 1
given (i.Operate operator) = 1
given (i.LoadAt base len) = 1
given (i.Turn to) = 1
given _ = 0

abbrev pub way : ℕ → ℕ → Way
way to depth = record { to = to; depth = depth }

abbrev pub on_way : Instr → ℕ → ℕ → Way
on_way x pc depth = way (pc + 1) (depth - taken x + given x)

-- the places to which an instruction leads, with the depth there
abbrev pub ways_of : Instr → ℕ → ℕ → List Way
ways_of (i.Jump to) pc depth = way to depth ∷ []
ways_of (i.JumpZero to) pc depth = on_way (i.JumpZero to) pc depth ∷ way to (depth - 1) ∷ []
ways_of (i.Turn to) pc depth = on_way (i.Turn to) pc depth ∷ way to (depth - 1) ∷ []
ways_of i.End pc depth = []
ways_of x pc depth = on_way x pc depth ∷ []

abbrev pub LeadsTo : CodeValue → ℕ → ℕ → ℕ → ℕ → Type 0
LeadsTo code pc depth to later = (x : Instr) × (k : ℕ) × (slice_get code.instrs pc ≡ Some x) × (slice_get (ways_of x pc depth) k ≡ Some (way to later))

-- a way from an entry on, always to later places, brings this depth to a place
pub data Brings (code : CodeValue) : ℕ → ℕ → Type 0 where
  Enters : {pc : ℕ} → IsEntry code pc → Brings code pc 0
  Follows : {pc depth to later : ℕ} → Brings code pc depth → pc < to → LeadsTo code pc depth to later → Brings code to later

-- the one depth of a place
pub record IsDepth (code : CodeValue) (pc depth : ℕ) : Type 0 where
  pub brought : Brings code pc depth
  pub agreed : (other : ℕ) → Brings code pc other → other ≡ depth

-- what the stack asks of an instruction at a place of this depth
pub record SuitsDepth (code : CodeValue) (pc depth : ℕ) (x : Instr) : Type 0 where
  pub finds : taken x ≤ depth
  -- nothing is left where a section ends
  pub acting : pc < versions_begin code → acts x ≡ true → depth ≡ taken x
  pub ends : x ≡ i.End → depth ≡ 0
  -- the place to which a backward jump goes has the depth of the jump
  pub back : (to : ℕ) → x ≡ i.Jump to → to ≤ pc → IsDepth code to depth

pub record StackIs (code : CodeValue) (pc depth : ℕ) : Type 0 where
  pub is : IsDepth code pc depth
  pub room : depth ≤ 32
  pub suits : (x : Instr) → slice_get code.instrs pc ≡ Some x → SuitsDepth code pc depth x

abbrev pub StackAt : CodeValue → ℕ → Type 0
StackAt code pc = (depth : ℕ) × StackIs code pc depth
