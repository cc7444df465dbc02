-- Files read in word order.
use Rattle.std.specs.Prelude.{◌≡◌, ℕ, ◌+◌, ◌≤◌, ◌<◌, List, [], ◌∷◌, ◌++◌, length, take, get_or, map, true, false, Option, option_map, IfSome, Result, Ok, Err, Vec}
use Rattle.std.specs.declared.alloc.Global.{Global}
use Rattle.cn_base.specs.Causes.{Rose}
use Rattle.cn_base.specs.Reading.{Files, Asked}
use Rattle.catnap_top.specs.Answer.{most_bytes}
use Rattle.catnap_top.specs.declared.reading.ReadStop.{ReadStop}
use Rattle.catnap_top.specs.declared.reading.ReadStop.TheVariants.{Failed, NoMemory}

abbrev pub gave : List ℕ → Asked
gave name = record { name = name; failed = false }

abbrev pub failed : List ℕ → Asked
failed name = record { name = name; failed = true }

-- the first `count` names, in order, none of which failed
abbrev pub Asks : List (List ℕ) → ℕ → Option (List Asked) → Option (List Asked) → Type 0
Asks names count before now = now ≡ option_map (λ asked. asked ++ map gave (take count names)) before

-- the first `count` names, in order, and then the next one, which failed
abbrev pub AsksInVain : List (List ℕ) → ℕ → Option (List Asked) → Option (List Asked) → Type 0
AsksInVain names count before now =
    now ≡ option_map (λ asked. asked ++ (map gave (take count names) ++ failed (get_or names count []) ∷ [])) before

-- the fronts of some files' bytes: of those that have these names, where the files are told
pub record AreRead (files : Option Files) (names fronts : List (List ℕ)) : Type 0 where
  pub bytes : List (List ℕ)
  pub told : IfSome files (λ known. bytes ≡ map known names)
  pub cut : fronts ≡ map (λ file. take (most_bytes + 1) file) bytes

-- all were read; or one failed, which raised the count; or memory ran out
abbrev pub ReadsInOrder : List (List ℕ) → Option Files → Option (List Asked) → Option (List Asked) → ℕ → ℕ → Result (Vec (Vec ℕ Global) Global) ReadStop → Type 0
ReadsInOrder names files asked0 asked1 reads0 reads1 (Ok read) =
    AreRead files names (map (λ file. file.items) read.items) × Asks names (length names) asked0 asked1 × (reads1 ≡ reads0)
    × (length read.items ≡ length names)
ReadsInOrder names files asked0 asked1 reads0 reads1 (Err (Failed count)) =
    (count < length names) × AsksInVain names count asked0 asked1 × (reads0 ≤ reads1) × Rose reads0 reads1
ReadsInOrder names files asked0 asked1 reads0 reads1 (Err NoMemory) =
    (count : ℕ) × (count ≤ length names) × Asks names count asked0 asked1 × (reads1 ≡ reads0)
