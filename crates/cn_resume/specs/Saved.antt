-- The file of a saved image: a head of 16 bytes, and then the bytes of the board's memory.
use Rattle.std.specs.Prelude.{ℕ, List, [], ◌∷◌, ◌++◌, codes}
use Rattle.std.specs.Int.{w32, to_le_bytes}
use Rattle.nv_memory.specs.Board.{State}

-- `CNI1`, the ticks that have passed, the units that are stored, and four zeros
abbrev pub head_bytes : ℕ → ℕ → List ℕ
head_bytes tick stored = codes "CNI1" ++ (to_le_bytes w32 tick ++ (to_le_bytes w32 stored ++ (0 ∷ 0 ∷ 0 ∷ 0 ∷ [])))

-- the file of a board
abbrev pub saved_bytes : State → List ℕ
saved_bytes board = head_bytes board.tick board.stored ++ board.image
