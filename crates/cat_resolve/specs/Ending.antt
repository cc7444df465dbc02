-- Blocks that end behind those that have ended.
use Rattle.std.specs.Prelude.{◌≡◌, ℕ, ◌+◌, ◌<◌, ◌^◌, List, ◌++◌, length}
use Rattle.cat_program.specs.declared.syntax.Stmt.{Stmt}
use Rattle.cat_resolve.specs.Form.{Command, commands}

-- these blocks, numbered behind those that have ended, are put behind them
abbrev pub Ends : List (List Stmt) → List (List Stmt) → (ℕ → List (List Command)) → Type 0
Ends before now blocks = commands now ≡ commands before ++ blocks (length before)

-- their numbers fit
abbrev pub Fits : List (List Stmt) → (ℕ → List (List Command)) → Type 0
Fits before blocks = length before + length (blocks (length before)) < 2 ^ 32
