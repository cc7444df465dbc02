-- What a write leaves in a sink, and how writes add up to a text.
use Rattle.std.specs.Prelude.{◌≡◌, ℕ, ◌≤◌, ◌<◌, List, length, take, Option, Result, Ok, Err, MatchResult}
use Rattle.std.specs.Io.KnownBytes.{append_known}

-- what is written after a write: the bytes of the front that it took, or nothing
abbrev pub written_after : {E : Type 0} → Option (List ℕ) → List ℕ → Result ℕ E → Option (List ℕ)
written_after written bytes (Ok count) = append_known written (take count bytes)
written_after written bytes (Err _) = written

-- a write takes no more than there is, and something where there is something
pub record Takes (count : ℕ) (bytes : List ℕ) : Type 0 where
  pub within : count ≤ length bytes
  pub some : 0 < length bytes → 0 < count

-- a proper prefix of the text was written
pub record IsCut (before now : Option (List ℕ)) (text : List ℕ) : Type 0 where
  pub count : ℕ
  pub short : count < length text
  pub written : now ≡ append_known before (take count text)

-- the text was written: whole at `Ok`, a proper prefix of it at `Err`
abbrev pub Writes : {T E : Type 0} → Option (List ℕ) → Option (List ℕ) → List ℕ → Result T E → Type 0
Writes before now text result = MatchResult result (λ _. now ≡ append_known before text) (λ _. IsCut before now text)
