-- What is wrong with a file, and where.
use Rattle.std.specs.Prelude.{◌≡◌, ℕ, ◌<◌, ◌⊎◌, List, length}
use Rattle.cat_machine.specs.CodeValue.{CodeValue}
use Rattle.cn_object.specs.declared.object.Object.{Object}
use Rattle.cn_object.specs.declared.object.Kind.{Kind}
use Rattle.cn_object.specs.declared.object.Kind.TheVariants.{Form, Operand, Region, Stack, Loop, Long}
use Rattle.cn_object.specs.declared.object.ObjectFault.{ObjectFault}
use Rattle.cn_object.specs.declared.object.ObjectFault.TheVariants.{BadObject, NoMemory}
use Rattle.cn_object.specs.Spelling.{IsFileOf, IsReadAs}
use Rattle.cn_object.specs.Operands.{OperandsAt}
use Rattle.cn_object.specs.Regions.{AreEntries, RegionAt}
use Rattle.cn_object.specs.Depths.{StackAt}
use Rattle.cn_object.specs.Loops.{LoopsAt}
use Rattle.cn_object.specs.Verified.{Everywhere, ShortAt, IsVerified}

-- the first place at which a rule fails
pub record FailsFirst (code : CodeValue) (rule : ℕ → Type 0) (place : ℕ) : Type 0 where
  pub within : place < length code.instrs
  pub fails : ¬ rule place
  pub before : (pc : ℕ) → pc < place → rule pc

abbrev pub operands_of : ℕ → CodeValue → ℕ → Type 0
operands_of words code = OperandsAt words (length code.tasks) code

-- entries that are wrong, or else the first instruction that breaks its region
abbrev pub BreaksRegion : CodeValue → ℕ → Type 0
BreaksRegion code place = ((¬ AreEntries code) × (place ≡ 0)) ⊎ (AreEntries code × FailsFirst code (RegionAt code) place)

-- the rules hold up to those of a kind
abbrev pub OperandsHold : ℕ → CodeValue → Type 0
OperandsHold words code = Everywhere code (operands_of words code)

abbrev pub RegionsHold : ℕ → CodeValue → Type 0
RegionsHold words code = OperandsHold words code × AreEntries code × Everywhere code (RegionAt code)

abbrev pub StacksHold : ℕ → CodeValue → Type 0
StacksHold words code = RegionsHold words code × Everywhere code (StackAt code)

abbrev pub LoopsHold : ℕ → CodeValue → Type 0
LoopsHold words code = StacksHold words code × Everywhere code (LoopsAt code)

-- the lowest rule that code breaks, with this many words, is of a kind, and a place is the first that breaks it
abbrev pub CodeBreaks : ℕ → CodeValue → Kind → ℕ → Type 0
CodeBreaks words code Form place = ⊥
CodeBreaks words code Operand place = FailsFirst code (operands_of words code) place
CodeBreaks words code Region place = OperandsHold words code × BreaksRegion code place
CodeBreaks words code Stack place = RegionsHold words code × FailsFirst code (StackAt code) place
CodeBreaks words code Loop place = StacksHold words code × FailsFirst code (LoopsAt code) place
CodeBreaks words code Long place = LoopsHold words code × FailsFirst code (ShortAt code) place

-- the bytes are read as no object, or as one whose code breaks a rule
pub data IsBad (bytes : List ℕ) : Kind → ℕ → Type 0 where
  NoFile : ((o : Object) → ¬ IsReadAs o bytes) → IsBad bytes Form 0
  Broken : {kind : Kind} {place : ℕ} → (o : Object) → IsReadAs o bytes → CodeBreaks (length o.words) o.code kind place → IsBad bytes kind place

abbrev pub Refuses : List ℕ → ObjectFault → Type 0
Refuses bytes (BadObject kind place) = IsBad bytes kind place
Refuses bytes NoMemory = Unit {0}

-- the code of an object can be run
abbrev pub IsVerifiedObject : Object → Type 0
IsVerifiedObject o = IsVerified (length o.words) (length o.code.tasks) o.code

-- the bytes are the file of an object whose code can be run
pub record IsGood (bytes : List ℕ) (o : Object) : Type 0 where
  pub file : IsFileOf o bytes
  pub verified : IsVerifiedObject o
