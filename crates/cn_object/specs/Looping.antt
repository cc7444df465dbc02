-- What a look at the whole code tells of its loops.
use Rattle.std.specs.Prelude.{◌≡◌, ℕ, ◌+◌, ◌<◌, ◌≤◌, ◌↔◌, Bool, false, IsTrue, List, length, Option, Some, None, slice_get, slice_index_or, MatchOption}
use Rattle.cat_machine.specs.declared.instr.Instr.{Instr}
use Rattle.cat_machine.specs.declared.instr.Instr.TheVariants as i
use Rattle.cat_machine.specs.CodeValue.{CodeValue}
use Rattle.cn_object.specs.Loops.{ActsSoon, GoesTo, TurnsAt, IsBetween, IsRepeat, CrossesNone}
use Rattle.cn_object.specs.Operands.{target_of}
use Rattle.cn_object.specs.declared.depth.Brought.{Brought}
use Rattle.cn_object.specs.Passing.{SumsTo, at_place, brought_to}
use Rattle.cn_object.specs.Depths.{way, taken, IsDepth}

pub record AreActingSoon (code : CodeValue) (soon : List Bool) : Type 0 where
  pub size : length soon ≡ length code.instrs
  pub each : (pc : ℕ) → pc < length soon → (IsTrue (slice_index_or soon pc false) ↔ ActsSoon code pc)

-- the loop around a place whose turn comes last
pub record IsInner (code : CodeValue) (pc turn : ℕ) : Type 0 where
  pub end : ℕ
  pub turns : TurnsAt code turn end
  pub around : IsBetween turn end pc
  pub last : (other far : ℕ) → TurnsAt code other far → IsBetween other far pc → other ≤ turn

abbrev pub InnerIs : CodeValue → ℕ → Option ℕ → Type 0
InnerIs code pc inner = MatchOption inner ((turn end : ℕ) → TurnsAt code turn end → ¬ IsBetween turn end pc) (IsInner code pc)

-- those of the first places
pub record AreInner (code : CodeValue) (n : ℕ) (inner : List (Option ℕ)) : Type 0 where
  pub size : length inner ≡ n
  pub each : (pc : ℕ) → pc < length inner → InnerIs code pc (slice_index_or inner pc None)

-- a turn before a place, where each later one before the place has its loop end before it
pub record IsLatestTurn (code : CodeValue) (pc turn : ℕ) : Type 0 where
  pub end : ℕ
  pub turns : TurnsAt code turn end
  pub before : turn < pc
  pub past : (other far : ℕ) → TurnsAt code other far → other < pc → turn < other → far ≤ pc

abbrev pub IsLatest : CodeValue → ℕ → Option ℕ → Type 0
IsLatest code pc latest = MatchOption latest ((turn end : ℕ) → TurnsAt code turn end → turn < pc → end ≤ pc) (IsLatestTurn code pc)

-- the last turn up to a place, or the one that is around it
abbrev pub latest_of : Instr → ℕ → Option ℕ → Option ℕ
latest_of (i.Turn end) pc around = Some pc
latest_of _ pc around = around

-- the places that go to each place: none, one, or several
pub record AreComing (code : CodeValue) (coming : List Brought) : Type 0 where
  pub size : length coming ≡ length code.instrs
  pub each : (to : ℕ) → to < length coming → SumsTo (λ pc. GoesTo code pc to) (at_place coming to)

abbrev pub noted : List Brought → Option ℕ → ℕ → List Brought
noted xs None pc = xs
noted xs (Some to) pc = brought_to xs (way to pc)

-- ---- one place of a version

abbrev pub JumpsWell : CodeValue → ℕ → ℕ → Type 0
JumpsWell code pc to = (to ≤ pc → (end : ℕ) × TurnsAt code to end) × CrossesNone code pc to

abbrev pub AllJumpWell : CodeValue → ℕ → Instr → Type 0
AllJumpWell code pc x = (to : ℕ) → target_of x ≡ Some to → JumpsWell code pc to

abbrev pub TurnsWell : CodeValue → ℕ → Instr → Type 0
TurnsWell code pc x = (end : ℕ) → x ≡ i.Turn end → IsRepeat code pc end

-- this many operands are above the counters of the loops around a place
abbrev pub TakesAbove : CodeValue → ℕ → ℕ → Type 0
TakesAbove code pc n = (turn end under depth : ℕ) → TurnsAt code turn end → IsBetween turn end pc → IsDepth code turn under → IsDepth code pc depth → under + n ≤ depth

abbrev pub TakesAboveAt : CodeValue → ℕ → Type 0
TakesAboveAt code pc = (x : Instr) → slice_get code.instrs pc ≡ Some x → TakesAbove code pc (taken x)
