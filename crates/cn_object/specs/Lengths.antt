-- The greatest count of instructions from each place of a version on.
use Rattle.std.specs.Prelude.{◌≡◌, ℕ, ◌+◌, ◌*◌, ◌<◌, ◌≤◌, min, max, nat_lt, if◌then◌else◌, List, length, Option, Some, None, slice_get, slice_index}
use Rattle.cat_machine.specs.declared.instr.Instr.{Instr}
use Rattle.cat_machine.specs.declared.instr.Instr.TheVariants as i
use Rattle.cat_machine.specs.CodeValue.{CodeValue}
use Rattle.cat_machine.specs.Costs.{Costs}
use Rattle.cost_bounds.specs.Pass.{Worth}
use Rattle.cn_object.specs.Regions.{versions_begin}
use Rattle.cn_object.specs.Verdict.{LoopsHold}

-- the loops of code are sound, whatever its words
abbrev pub HasSoundLoops : CodeValue → Type 0
HasSoundLoops code = (words : ℕ) × LoopsHold words code

-- each instruction counts for one
abbrev pub each_one : Costs
each_one class = 1

-- a count, or 1,000,001 where it is more
abbrev pub cut_off : ℕ → ℕ
cut_off n = min n 1000001

-- the count from a place up to the end, or up to the jump back of the innermost repeat around it
abbrev pub LengthIs : CodeValue → ℕ → ℕ → Type 0
LengthIs code pc n = (c : ℕ) → Worth each_one code pc c → n ≡ cut_off c

-- the counts of the places from one on
pub record AreLengths (code : CodeValue) (from : ℕ) (lengths : List ℕ) : Type 0 where
  pub size : length lengths ≡ length code.instrs
  pub each : (pc : ℕ) → from ≤ pc → pc < length lengths → versions_begin code ≤ pc → LengthIs code pc (slice_index lengths pc)

-- the turns of a repeat, each with its test, and the test that ends it
abbrev pub repeated : ℕ → ℕ → ℕ → ℕ
repeated turns inside later = turns * (1 + inside) + 1 + later

-- of an instruction, by the counts of the next place and of the place to which it goes
abbrev pub length_of : Instr → ℕ → ℕ → ℕ → ℕ → ℕ
length_of i.End pc turns next there = 1
length_of (i.Jump to) pc turns next there = if nat_lt pc to then 1 + there else 1
length_of (i.JumpZero to) pc turns next there = 1 + max next there
length_of (i.Turn to) pc turns next there = repeated turns next there
length_of _ pc turns next there = 1 + next

abbrev pub length_to : List ℕ → Option ℕ → ℕ
length_to lengths None = 0
length_to lengths (Some to) = slice_index lengths to

-- the first of these entries from which the count is too great
abbrev pub IsShort : List ℕ → ℕ → Type 0
IsShort lengths entry = slice_index lengths entry ≤ 1000000

abbrev pub AreShort : List ℕ → List ℕ → ℕ → Type 0
AreShort entries lengths n = (k entry : ℕ) → k < n → slice_get entries k ≡ Some entry → IsShort lengths entry

pub record IsFirstLong (entries lengths : List ℕ) (place : ℕ) : Type 0 where
  pub at : ℕ
  pub is : slice_get entries at ≡ Some place
  pub long : 1000000 < slice_index lengths place
  pub before : AreShort entries lengths at
