-- A line as its words, and texts one after the other.
use Rattle.std.specs.Prelude.{ℕ, zero, suc, List, [], ◌∷◌, ◌++◌, codes}

-- words with one space between them, and the end of the line
abbrev pub line : List (List ℕ) → List ℕ
line [] = codes "\n"
line (word ∷ []) = word ++ codes "\n"
line (word ∷ words) = word ++ (codes " " ++ line words)

-- the texts of 0, 1 and so on below n, one after the other
abbrev pub in_turn : (ℕ → List ℕ) → ℕ → List ℕ
in_turn text zero = []
in_turn text (suc n) = in_turn text n ++ text n
