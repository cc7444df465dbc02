-- A text on its way to a sink, some of which is held for a while.
use Rattle.std.specs.Prelude.{◌≡◌, ℕ, ◌≤◌, List, ◌++◌, length, take, drop, Option, Result, MatchResult}
use Rattle.std.specs.Io.KnownBytes.{append_known}
use Rattle.cn_base.specs.Writing.{IsCut}

-- a front of the text was written, and the rest is held
pub record IsHeld (before now : Option (List ℕ)) (text held : List ℕ) : Type 0 where
  pub count : ℕ
  pub within : count ≤ length text
  pub written : now ≡ append_known before (take count text)
  pub rest : held ≡ drop count text

-- What was held and the text behind it: at `Ok` a front of it was written and the rest is held, at `Err` a proper prefix was written.
abbrev pub Adds : {T E : Type 0} → Option (List ℕ) → Option (List ℕ) → List ℕ → List ℕ → List ℕ → Result T E → Type 0
Adds before now held holds text result = MatchResult result (λ _. IsHeld before now (held ++ text) holds) (λ _. IsCut before now (held ++ text))
