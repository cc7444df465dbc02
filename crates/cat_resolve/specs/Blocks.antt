-- What the statements of a source become. Blocks are numbered in the order in which they end, so the blocks that a statement
-- names have lower numbers than its own.
use Rattle.std.specs.Prelude.{ℕ, ◌+◌, min, List, [], ◌∷◌, ◌++◌, length, Option, Some, None}
use Rattle.cat_conditions.specs.Plain.{Action, Actions, no_action, action, Else, no_else, otherwise}
use Rattle.cat_conditions.specs.Plain as plain
use Rattle.cat_resolve.specs.declared.names.Meaning.{Meaning}
use Rattle.cat_resolve.specs.declared.names.Meaning.TheVariants as meaning
use Rattle.cat_resolve.specs.Names.{Meanings}
use Rattle.cat_resolve.specs.Form.{Formula, Command, set, set_at, out, post, branch, loop, turns}
use Rattle.cat_resolve.specs.Resolved.{formula_of}

-- The conditions rule out a name that stands for nothing, or not for what is needed here, and numbers above these.
abbrev pub set_form : Option Meaning → Formula → Command
set_form (Some (meaning.Word w)) value = set w value
set_form _ value = set 0 value

abbrev pub set_at_form : Option Meaning → Formula → Formula → Command
set_at_form (Some (meaning.Array base len)) index value = set_at base len index value
set_at_form _ index value = set_at 0 0 index value

abbrev pub post_form : Option Meaning → Command
post_form (Some (meaning.Task t)) = post t
post_form _ = post 0

abbrev pub out_form : ℕ → Formula → Command
out_form channel value = out (min channel 255) value

abbrev pub turns_form : ℕ → ℕ → Command
turns_form count body = turns (min count 65535) body

abbrev mutual
  -- what a statement becomes, where the next block to end has number n
  pub command_of : Meanings → ℕ → Action → Command
  command_of names n (plain.set x value) = set_form (names x) (formula_of names value)
  command_of names n (plain.set_at x index value) = set_at_form (names x) (formula_of names index) (formula_of names value)
  command_of names n (plain.out channel value) = out_form channel (formula_of names value)
  command_of names n (plain.post x) = post_form (names x)
  command_of names n (plain.choose test first second) =
      branch (formula_of names test) (n + length (blocks_within names n first)) (else_number names (n + length (blocks_within names n first) + 1) second)
  command_of names n (plain.loop test body) = loop (formula_of names test) (n + length (blocks_within names n body))
  command_of names n (plain.turns count body) = turns_form count (n + length (blocks_within names n body))

  -- the blocks that end within a statement, in their order
  pub blocks_in : Meanings → ℕ → Action → List (List Command)
  blocks_in names n (plain.choose test first second) =
      blocks_within names n first ++ (commands_of names n first ∷ else_blocks names (n + length (blocks_within names n first) + 1) second)
  blocks_in names n (plain.loop test body) = blocks_within names n body ++ commands_of names n body ∷ []
  blocks_in names n (plain.turns count body) = blocks_within names n body ++ commands_of names n body ∷ []
  blocks_in names n _ = []

  -- the same of the statements of a block
  pub commands_of : Meanings → ℕ → Actions → List Command
  commands_of names n no_action = []
  commands_of names n (action a rest) = command_of names n a ∷ commands_of names (n + length (blocks_in names n a)) rest

  pub blocks_within : Meanings → ℕ → Actions → List (List Command)
  blocks_within names n no_action = []
  blocks_within names n (action a rest) = blocks_in names n a ++ blocks_within names (n + length (blocks_in names n a)) rest

  -- the second block of an `if`, if it has one
  pub else_number : Meanings → ℕ → Else → Option ℕ
  else_number names n no_else = None
  else_number names n (otherwise body) = Some (n + length (blocks_within names n body))

  pub else_blocks : Meanings → ℕ → Else → List (List Command)
  else_blocks names n no_else = []
  else_blocks names n (otherwise body) = blocks_within names n body ++ commands_of names n body ∷ []

-- a block with those in it, its own the last
abbrev pub block_blocks : Meanings → ℕ → Actions → List (List Command)
block_blocks names n body = blocks_within names n body ++ commands_of names n body ∷ []

-- its number
abbrev pub block_number : Meanings → ℕ → Actions → ℕ
block_number names n body = n + length (blocks_within names n body)
