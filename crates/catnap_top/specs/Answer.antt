-- An answer: a status, and the text that is written.
use Rattle.std.specs.Prelude.{ℕ, List, [], ◌∷◌, ◌++◌, Bool, true, false, codes, decimal}
use Rattle.catnap_top.specs.declared.status.Status.{Status}
use Rattle.catnap_top.specs.declared.status.Status.TheVariants.{Usage, ReadFault, WriteFault, NoMemory}

-- the pieces of a line, joined
abbrev pub line : List (List ℕ) → List ℕ
line [] = []
line (piece ∷ pieces) = piece ++ line pieces

pub record Answer : Type 0 where
  pub status : Status
  pub text : List ℕ

-- the words are of no form
abbrev pub usage : Answer
usage = record { status = Usage; text = codes "fault usage\n" }

-- the file's word at this place could not be read
abbrev pub read_fault : ℕ → Answer
read_fault place = record { status = ReadFault; text = line (codes "fault read " ∷ decimal place ∷ codes "\n" ∷ []) }

-- a form over its files may call for this status; the other four have causes of their own
abbrev pub is_own : Status → Bool
is_own Usage = false
is_own ReadFault = false
is_own WriteFault = false
is_own NoMemory = false
is_own _ = true

-- the greatest file, in bytes
abbrev pub most_bytes : ℕ
most_bytes = 16777216
