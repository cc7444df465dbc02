-- Working states of verified code.
use Rattle.std.specs.Prelude.{◌≡◌, ◌≢◌, ℕ, ◌-◌, ◌<◌, ◌≤◌, ◌⊎◌, ℤ, pos, List, [], length, Option, Some, None, slice_get}
use Rattle.cat_machine.specs.declared.instr.Instr.TheVariants as i
use Rattle.cat_machine.specs.CodeValue.{CodeValue}
use Rattle.cat_machine.specs.Held.{Held}
use Rattle.cn_object.specs.Regions.{versions_begin}
use Rattle.cn_object.specs.Depths.{IsDepth}
use Rattle.cn_object.specs.Loops.{TurnsAt, IsBetween}
use Rattle.cn_object.specs.Verified.{IsVerified}

-- the counter of each loop around a place, or whose turn stands there, is on the stack, from 0 to 1,000
abbrev pub HasCounters : CodeValue → ℕ → ℕ → List ℤ → Type 0
HasCounters code pc depth stack = (turn end under : ℕ) → TurnsAt code turn end → (turn ≡ pc) ⊎ IsBetween turn end pc → IsDepth code turn under → (n : ℕ) × (n ≤ 1000) × (slice_get stack (depth - under) ≡ Some (pos n))

-- the stack is as deep as the place says
pub record StandsAt (code : CodeValue) (pc : ℕ) (stack : List ℤ) : Type 0 where
  pub within : pc < length code.instrs
  pub depth : ℕ
  pub is : IsDepth code pc depth
  pub stack_is : length stack ≡ depth
  pub counters : HasCounters code pc depth stack

-- a place in the tasks' code, but that of no begin
pub record IsTaskPlace (code : CodeValue) (pc : ℕ) : Type 0 where
  pub task : pc < versions_begin code
  pub no_begin : (t : ℕ) → slice_get code.instrs pc ≢ Some (i.Begin t)

-- the place that is kept aside: none, or one between two sections
abbrev pub CanBeKept : CodeValue → Option ℕ → Type 0
CanBeKept code None = Unit {0}
CanBeKept code (Some pc) = IsTaskPlace code pc × IsDepth code pc 0

-- between two sections with no task current, in a task, or in a handler
pub data StandsIn (code : CodeValue) (h : Held) : Type 0 where
  Idle : h.kept ≡ None → h.place ≡ None → h.stack ≡ [] → StandsIn code h
  InTask : (pc : ℕ) → h.kept ≡ None → h.place ≡ Some pc → IsTaskPlace code pc → StandsAt code pc h.stack → StandsIn code h
  InVersion : (pc : ℕ) (kept : Option ℕ) → h.kept ≡ Some kept → CanBeKept code kept → h.place ≡ Some pc → versions_begin code ≤ pc → StandsAt code pc h.stack → StandsIn code h

-- a working state of verified code
pub record FitsCode (code : CodeValue) (h : Held) : Type 0 where
  pub verified : IsVerified (length h.words) (length h.posts) code
  pub tasks : length code.tasks ≡ length h.posts
  pub stands : StandsIn code h
