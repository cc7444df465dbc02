-- The pieces of a source: its items, statements and expressions in the order of their first tokens,
-- an outer one before an inner one that starts with the same token.
use Rattle.std.specs.Prelude.{ℕ, ◌-◌, Bool, true, false, List, [], ◌∷◌, ◌++◌}
use Rattle.cn_base.specs.declared.tree.Item.{Item}
use Rattle.cn_base.specs.declared.tree.Item.TheVariants as item
use Rattle.cn_base.specs.declared.tree.Stmt.{Stmt}
use Rattle.cn_base.specs.declared.tree.Tree.{Tree}
use Rattle.cat_conditions.specs.Plain.{Term, element, signed, chain, compare, Furthers, no_further, further, Action, set, set_at, out, post, choose, loop, turns, Actions, no_action, action, Else, no_else, otherwise, block_of}

pub data Piece : Type 0 where
  an_item : Item → Piece
  -- whether it stands in an event, how many operands the repeats around it leave, and the statement
  a_statement : Bool → ℕ → Action → Piece
  -- whether it stands in an event, and the expression
  an_expression : Bool → Term → Piece

abbrev mutual
  -- what stands in an expression
  pub inner_terms : Bool → Term → List Piece
  inner_terms event (element x index) = an_expression event index ∷ inner_terms event index
  inner_terms event (signed sign operand) = an_expression event operand ∷ inner_terms event operand
  inner_terms event (chain first others) = an_expression event first ∷ (inner_terms event first ++ further_terms event others)
  inner_terms event (compare first comparison second) = an_expression event first ∷ (inner_terms event first ++ an_expression event second ∷ inner_terms event second)
  inner_terms event _ = []

  pub further_terms : Bool → Furthers → List Piece
  further_terms event no_further = []
  further_terms event (further operator operand others) = an_expression event operand ∷ (inner_terms event operand ++ further_terms event others)

-- an expression and what stands in it
abbrev pub term_pieces : Bool → Term → List Piece
term_pieces event term = an_expression event term ∷ inner_terms event term

abbrev mutual
  -- what stands in a statement
  pub inner_pieces : Bool → ℕ → Action → List Piece
  inner_pieces event room (set x value) = term_pieces event value
  inner_pieces event room (set_at x index value) = term_pieces event index ++ term_pieces event value
  inner_pieces event room (out channel value) = term_pieces event value
  inner_pieces event room (post x) = []
  inner_pieces event room (choose test first second) = term_pieces event test ++ (block_pieces event room first ++ else_pieces event room second)
  inner_pieces event room (loop test body) = term_pieces event test ++ block_pieces event room body
  inner_pieces event room (turns count body) = block_pieces event (room - 1) body

  -- the statements of a block, each with what stands in it
  pub block_pieces : Bool → ℕ → Actions → List Piece
  block_pieces event room no_action = []
  block_pieces event room (action first others) = a_statement event room first ∷ (inner_pieces event room first ++ block_pieces event room others)

  pub else_pieces : Bool → ℕ → Else → List Piece
  else_pieces event room no_else = []
  else_pieces event room (otherwise block) = block_pieces event room block

-- how many operands a statement may need at once
abbrev pub most_operands : ℕ
most_operands = 32

abbrev pub versions_pieces : List (List Stmt) → List Piece
versions_pieces [] = []
versions_pieces (version ∷ versions) = block_pieces true most_operands (block_of version) ++ versions_pieces versions

-- what stands in an item
abbrev pub item_pieces : Item → List Piece
item_pieces (item.Task x body) = block_pieces false most_operands (block_of body)
item_pieces (item.Event x timing deadline versions) = versions_pieces versions
item_pieces _ = []

abbrev pub items_pieces : List Item → List Piece
items_pieces [] = []
items_pieces (i ∷ items) = an_item i ∷ (item_pieces i ++ items_pieces items)

abbrev pub pieces : Tree → List Piece
pieces tree = items_pieces tree.items
