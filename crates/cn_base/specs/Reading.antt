-- What a read answers, and what is known of it afterwards.
use Rattle.std.specs.Prelude.{◌≡◌, ℕ, ◌+◌, ◌≤◌, Bool, true, false, List, [], ◌∷◌, ◌++◌, take, Option, option_map, Result, Ok, Err, IfSome, IsErrOf}
use Rattle.cn_base.specs.declared.inputs.ReadFail.{ReadFail}
use Rattle.cn_base.specs.declared.inputs.ReadFail.TheVariants.{Failed, NoMemory}
use Rattle.cn_base.specs.Causes.{Rose}

-- the files, by their names; a name that no file has stands for no bytes
abbrev pub Files : Type 0
Files = List ℕ → List ℕ

-- a read that was asked, and whether it failed
pub record Asked : Type 0 where
  pub name : List ℕ
  pub failed : Bool

-- the asked reads after a read: want of memory is no read
abbrev pub asked_after : {T : Type 0} → Option (List Asked) → List ℕ → Result T ReadFail → Option (List Asked)
asked_after asked name (Ok _) = option_map (λ before. before ++ record { name = name; failed = false } ∷ []) asked
asked_after asked name (Err Failed) = option_map (λ before. before ++ record { name = name; failed = true } ∷ []) asked
asked_after asked name (Err NoMemory) = asked

-- the bytes are the first limit + 1 of the file's, where the files are told
abbrev pub IsFront : Option Files → List ℕ → ℕ → List ℕ → Type 0
IsFront files name limit bytes = IfSome files (λ told. bytes ≡ take (limit + 1) (told name))

-- `Failed` comes only where the count rose, and any other answer leaves it as it was
pub record HasReadCause {T : Type 0} (before now : ℕ) (result : Result T ReadFail) : Type 0 where
  pub later : before ≤ now
  pub failed : IsErrOf result Failed → Rose before now
  pub kept : (IsErrOf result Failed → ⊥) → now ≡ before
