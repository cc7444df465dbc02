-- The loops of tasks and of versions.
use Rattle.std.specs.Prelude.{◌≡◌, ℕ, ◌+◌, ◌<◌, ◌≤◌, ◌↔◌, pos, true, false, None, Some, slice_get}
use Rattle.cat_machine.specs.declared.instr.Instr.{Instr}
use Rattle.cat_machine.specs.declared.instr.Instr.TheVariants as i
use Rattle.cat_machine.specs.CodeValue.{CodeValue}
use Rattle.cost_bounds.specs.Paths.{acts}
use Rattle.cn_object.specs.Operands.{target_of}
use Rattle.cn_object.specs.Regions.{versions_begin}
use Rattle.cn_object.specs.Depths.{taken, IsDepth}

-- ---- tasks

-- from a place on, over instructions that neither jump nor act, the first other one acts
pub data ActsSoon (code : CodeValue) : ℕ → Type 0 where
  Acts : {pc : ℕ} → (x : Instr) → slice_get code.instrs pc ≡ Some x → acts x ≡ true → ActsSoon code pc
  GoesOn : {pc : ℕ} → (x : Instr) → slice_get code.instrs pc ≡ Some x → acts x ≡ false → target_of x ≡ None → ActsSoon code (pc + 1) → ActsSoon code pc

abbrev pub TaskLoopsAt : CodeValue → ℕ → Type 0
TaskLoopsAt code pc = (to : ℕ) → slice_get code.instrs pc ≡ Some (i.Jump to) → to ≤ pc → ActsSoon code to

-- ---- versions

-- a turn stands at a place, and goes to another
abbrev pub TurnsAt : CodeValue → ℕ → ℕ → Type 0
TurnsAt code turn end = slice_get code.instrs turn ≡ Some (i.Turn end)

abbrev pub IsBetween : ℕ → ℕ → ℕ → Type 0
IsBetween turn end pc = (turn < pc) × (pc < end)

-- an instruction at a place may go to another
abbrev pub GoesTo : CodeValue → ℕ → ℕ → Type 0
GoesTo code pc to = (x : Instr) × (slice_get code.instrs pc ≡ Some x) × (target_of x ≡ Some to)

-- A push of 0 to 1,000 stands just before a turn, and the one jump that goes to it just before the place to which it goes.
pub record IsRepeat (code : CodeValue) (turn end : ℕ) : Type 0 where
  pub before : ℕ
  pub turns : ℕ
  pub just_before : turn ≡ before + 1
  pub few : turns ≤ 1000
  pub pushed : slice_get code.instrs before ≡ Some (i.Push (pos turns))
  pub last : ℕ
  pub just_after : end ≡ last + 1
  pub back : slice_get code.instrs last ≡ Some (i.Jump turn)
  pub only : (pc : ℕ) → GoesTo code pc turn → pc ≡ last

-- the jump back of a turn's own loop
abbrev pub IsBackOf : ℕ → ℕ → ℕ → ℕ → Type 0
IsBackOf turn end pc to = (end ≡ pc + 1) × (to ≡ turn)

-- any jump but a loop's own has both ends within the loop, or none
abbrev pub CrossesNone : CodeValue → ℕ → ℕ → Type 0
CrossesNone code pc to = (turn end : ℕ) → TurnsAt code turn end → ¬ IsBackOf turn end pc to → (IsBetween turn end pc ↔ IsBetween turn end to)

pub record VersionLoopsAt (code : CodeValue) (pc : ℕ) : Type 0 where
  pub turn : (end : ℕ) → TurnsAt code pc end → IsRepeat code pc end
  pub back : (to : ℕ) → slice_get code.instrs pc ≡ Some (i.Jump to) → to ≤ pc → (end : ℕ) × TurnsAt code to end
  pub jump : (to : ℕ) → GoesTo code pc to → CrossesNone code pc to
  -- within a loop, only operands above its counter are taken
  pub above : (x : Instr) (turn end under depth : ℕ) → slice_get code.instrs pc ≡ Some x → TurnsAt code turn end → IsBetween turn end pc → IsDepth code turn under → IsDepth code pc depth → under + taken x ≤ depth

pub record LoopsAt (code : CodeValue) (pc : ℕ) : Type 0 where
  pub task : pc < versions_begin code → TaskLoopsAt code pc
  pub version : versions_begin code ≤ pc → VersionLoopsAt code pc
