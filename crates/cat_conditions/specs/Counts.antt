-- What is counted over all pieces.
use Rattle.std.specs.Prelude.{ℕ, ◌+◌, ◌*◌, max, Bool, false, nat_le, nat_lt, bytes_eq, List, [], ◌∷◌, length, Option, Some, None, filter_map, count_by, unwrap_or}
use Rattle.std.specs.List.{list_any}
use Rattle.std.specs.Map.{lookup}
use Rattle.cn_base.specs.declared.tree.Item.{Item}
use Rattle.cn_base.specs.declared.tree.Item.TheVariants as item
use Rattle.cn_base.specs.declared.tree.Stmt.{Stmt}
use Rattle.cat_conditions.specs.Plain.{Term, element, signed, chain, compare, Furthers, no_further, further, Action, set, set_at, out, post, choose, loop, turns, Actions, no_action, action, Else, no_else, otherwise, block_of}
use Rattle.cat_conditions.specs.Pieces.{Piece, an_item, a_statement}
use Rattle.cat_conditions.specs.Names.{Name}

-- an int or a bool has one word, an array its length
abbrev pub item_words : Item → ℕ
item_words (item.Int x minus n) = 1
item_words (item.Bool x b) = 1
item_words (item.Array x len) = len
item_words _ = 0

abbrev pub words : Piece → ℕ
words (an_item i) = item_words i
words _ = 0

abbrev pub one_event : Piece → ℕ
one_event (an_item (item.Event x timing deadline versions)) = 1
one_event _ = 0

abbrev pub one_task : Piece → ℕ
one_task (an_item (item.Task x body)) = 1
one_task _ = 0

-- ---- degrade orders

abbrev pub versions_count : Piece → Option (Name × ℕ)
versions_count (an_item (item.Event x timing deadline versions)) = Some (x, length versions)
versions_count _ = None

-- how many versions the event of this name has
abbrev pub versions_of : List Piece → Name → ℕ
versions_of pieces x = unwrap_or (lookup (λ y. bytes_eq x y) (filter_map versions_count pieces)) 0

abbrev pub mentioned : Piece → List Name
mentioned (an_item (item.Degrade names)) = names
mentioned _ = []

-- the orders so far, with this piece, mention one of its events as often as it has versions
abbrev pub degrades_too_often : (Name → ℕ) → List Name → Piece → Bool
degrades_too_often versions so_far p = list_any (λ x. nat_le (versions x) (count_by (λ y. bytes_eq x y) so_far)) (mentioned p)

-- ---- operands

abbrev mutual
  -- how many operands an expression needs at once
  pub need : Term → ℕ
  need (element x index) = need index
  need (signed sign operand) = need operand
  need (chain first others) = max (need first) (further_need others)
  need (compare first comparison second) = max (need first) (need second + 1)
  need _ = 1

  pub further_need : Furthers → ℕ
  further_need no_further = 0
  further_need (further operator operand others) = max (need operand + 1) (further_need others)

-- of a statement itself: what stands in its blocks counts by itself
abbrev pub action_need : Action → ℕ
action_need (set x value) = need value
action_need (set_at x index value) = max (need index) (need value + 1)
action_need (out channel value) = need value
action_need (post x) = 0
action_need (choose test first second) = need test
action_need (loop test body) = need test
action_need (turns count body) = 1

abbrev pub needs_too_many : Piece → Bool
needs_too_many (a_statement event room a) = nat_lt room (action_need a)
needs_too_many _ = false

-- ---- instructions

abbrev mutual
  -- how many instructions an expression has
  pub size : Term → ℕ
  size (element x index) = size index + 1
  size (signed sign operand) = size operand + 1
  size (chain first others) = size first + further_size others
  size (compare first comparison second) = size first + size second + 1
  size _ = 1

  pub further_size : Furthers → ℕ
  further_size no_further = 0
  further_size (further operator operand others) = size operand + 1 + further_size others

abbrev mutual
  -- how many instructions the code of a statement has
  pub action_size : Action → ℕ
  action_size (set x value) = size value + 1
  action_size (set_at x index value) = size index + size value + 1
  action_size (out channel value) = size value + 1
  action_size (post x) = 1
  action_size (choose test first second) = size test + 1 + block_size first + else_size second
  action_size (loop test body) = size test + 1 + block_size body + 1
  action_size (turns count body) = 1 + 1 + block_size body + 1

  pub block_size : Actions → ℕ
  block_size no_action = 0
  block_size (action first others) = action_size first + block_size others

  -- the jump over it, and its own code
  pub else_size : Else → ℕ
  else_size no_else = 0
  else_size (otherwise block) = 1 + block_size block

abbrev mutual
  -- the greatest count of instructions that one run of a statement has; a version has no `while`
  pub action_run : Action → ℕ
  action_run (set x value) = size value + 1
  action_run (set_at x index value) = size index + size value + 1
  action_run (out channel value) = size value + 1
  action_run (post x) = 1
  action_run (choose test first second) = size test + 1 + choice_run (block_run first) second
  action_run (loop test body) = size test + 1
  action_run (turns count body) = 1 + (count + 1) + count + count * block_run body

  pub block_run : Actions → ℕ
  block_run no_action = 0
  block_run (action first others) = action_run first + block_run others

  -- the dearer way: without a second block the first or none, else the first with its jump or the second
  pub choice_run : ℕ → Else → ℕ
  choice_run first no_else = first
  choice_run first (otherwise block) = max (first + 1) (block_run block)

-- a version's instructions and its `end`
abbrev pub version_run : List Stmt → ℕ
version_run block = block_run (block_of block) + 1

abbrev pub runs_too_long : Piece → Bool
runs_too_long (an_item (item.Event x timing deadline versions)) = list_any (λ version. nat_lt 1000000 (version_run version)) versions
runs_too_long _ = false

-- `begin`, the statements and `end`
abbrev pub task_size : Piece → ℕ
task_size (an_item (item.Task x body)) = 1 + block_size (block_of body) + 1
task_size _ = 0

abbrev pub versions_size : List (List Stmt) → ℕ
versions_size [] = 0
versions_size (version ∷ versions) = block_size (block_of version) + 1 + versions_size versions

-- each version's statements and `end`
abbrev pub event_size : Piece → ℕ
event_size (an_item (item.Event x timing deadline versions)) = versions_size versions
event_size _ = 0
