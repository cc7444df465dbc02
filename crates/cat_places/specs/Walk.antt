-- The tokens of a piece that is known: where it begins among them, and what is left behind it. Of the tokens
-- only the kind counts.
use denote.Enum.Bare.{sameb}
use Rattle.std.specs.Prelude.{ℕ, suc, ◌+◌, ◌*◌, ◌-◌, Bool, true, false, List, [], ◌∷◌, ◌++◌, length, drop}
use Rattle.cat_tokens.specs.declared.token.Symbol.{Symbol}
use Rattle.cat_tokens.specs.declared.token.Symbol.TheVariants as s
use Rattle.cat_tokens.specs.contracts.token.Symbol as symbols
use Rattle.cat_tokens.specs.declared.token.What.{What}
use Rattle.cat_tokens.specs.declared.token.What.TheVariants as what
use Rattle.cn_base.specs.declared.tree.Stmt.{Stmt}
use Rattle.cn_base.specs.declared.tree.Item.{Item}
use Rattle.cn_base.specs.declared.tree.Item.TheVariants as item
use Rattle.cn_base.specs.declared.tree.Timing.{Timing}
use Rattle.cn_base.specs.declared.tree.Timing.TheVariants as timing
use Rattle.cat_conditions.specs.Plain.{Term, element, signed, chain, compare, Furthers, no_further, further, Action, set, set_at, out, post, choose, loop, turns, Actions, no_action, action, Else, no_else, otherwise, block_of}

abbrev pub begins_with : Symbol → List What → Bool
begins_with s (what.Symbol t ∷ ws) = sameb symbols.the_type t s
begins_with s _ = false

-- how many parentheses open in front
abbrev pub opening : List What → ℕ
opening (what.Symbol s.LeftParen ∷ ws) = suc (opening ws)
opening _ = 0

-- from the first token that is none of these on
abbrev pub unopened : List What → List What
unopened (what.Symbol s.LeftParen ∷ ws) = unopened ws
unopened ws = ws

-- without the parentheses in front that close these
abbrev pub closed : ℕ → List What → List What
closed (suc n) (what.Symbol s.RightParen ∷ ws) = closed n ws
closed n ws = ws

-- how many of these are open then
abbrev pub still_open : ℕ → List What → ℕ
still_open (suc n) (what.Symbol s.RightParen ∷ ws) = still_open n ws
still_open n ws = n

abbrev mutual
  -- of the parentheses in front of an expression, how many are still open behind its own last token
  pub unclosed : Term → List What → ℕ
  unclosed (chain first others) ws = still_open (unclosed first ws) (after first ws)
  unclosed (compare first c second) ws = still_open (unclosed first ws) (after first ws)
  unclosed _ ws = opening ws

  -- what is left behind its own last token
  pub after : Term → List What → List What
  after (element x index) ws = drop 1 (closed (unclosed index (drop 2 (unopened ws))) (after index (drop 2 (unopened ws))))
  after (signed sign operand) ws = closed (unclosed operand (drop 1 (unopened ws))) (after operand (drop 1 (unopened ws)))
  after (chain first others) ws = after_furthers others (closed (unclosed first ws) (after first ws))
  after (compare first c second) ws =
      closed (unclosed second (drop 1 (closed (unclosed first ws) (after first ws)))) (after second (drop 1 (closed (unclosed first ws) (after first ws))))
  after _ ws = drop 1 (unopened ws)

  -- what is left behind further operands, each with the parentheses around it
  pub after_furthers : Furthers → List What → List What
  after_furthers no_further ws = ws
  after_furthers (further o operand others) ws = after_furthers others (closed (unclosed operand (drop 1 ws)) (after operand (drop 1 ws)))

-- what is left behind an expression and the parentheses around it
abbrev pub enclosed : Term → List What → List What
enclosed x ws = closed (unclosed x ws) (after x ws)

-- where it is the first operand of a chain or comparison: how many parentheses are open around the whole
abbrev pub open_outside : Term → List What → ℕ
open_outside first ws = still_open (unclosed first ws) (after first ws)

-- and how many tokens are left where the whole begins
abbrev pub left_outside : Term → List What → ℕ
left_outside first ws = length ws - open_outside first ws

abbrev mutual
  -- how many tokens are left where each piece of an expression begins
  pub lefts : Term → List What → List ℕ
  lefts (element x index) ws = length (unopened ws) ∷ lefts index (drop 2 (unopened ws))
  lefts (signed sign operand) ws = length (unopened ws) ∷ lefts operand (drop 1 (unopened ws))
  lefts (chain first others) ws = left_outside first ws ∷ (lefts first ws ++ furthers_lefts others (enclosed first ws))
  lefts (compare first c second) ws = left_outside first ws ∷ (lefts first ws ++ lefts second (drop 1 (enclosed first ws)))
  lefts _ ws = length (unopened ws) ∷ []

  pub furthers_lefts : Furthers → List What → List ℕ
  furthers_lefts no_further ws = []
  furthers_lefts (further o operand others) ws = lefts operand (drop 1 ws) ++ furthers_lefts others (enclosed operand (drop 1 ws))

-- a value behind so many tokens, and the semicolon behind it
abbrev pub after_value : ℕ → Term → List What → List What
after_value before value ws = drop 1 (enclosed value (drop before ws))

abbrev pub value_lefts : ℕ → Term → List What → List ℕ
value_lefts before value ws = lefts value (drop before ws)

abbrev mutual
  -- what is left behind a statement
  pub after_action : Action → List What → List What
  after_action (set x value) ws = after_value 2 value ws
  after_action (set_at x index value) ws = after_value 2 value (enclosed index (drop 2 ws))
  after_action (out channel value) ws = after_value 3 value ws
  after_action (post x) ws = drop 3 ws
  after_action (choose test first second) ws = after_else second (drop 1 (after_actions first (drop 1 (enclosed test (drop 1 ws)))))
  after_action (loop test body) ws = drop 1 (after_actions body (drop 1 (enclosed test (drop 1 ws))))
  after_action (turns count body) ws = drop 1 (after_actions body (drop 1 (drop 2 ws)))

  pub after_actions : Actions → List What → List What
  after_actions no_action ws = ws
  after_actions (action first others) ws = after_actions others (after_action first ws)

  pub after_else : Else → List What → List What
  after_else no_else ws = ws
  after_else (otherwise block) ws = drop 1 (after_actions block (drop 1 (drop 1 ws)))

abbrev pub after_block : Actions → List What → List What
after_block block ws = drop 1 (after_actions block (drop 1 ws))

abbrev mutual
  -- how many tokens are left where each piece in a statement begins
  pub inner_lefts : Action → List What → List ℕ
  inner_lefts (set x value) ws = value_lefts 2 value ws
  inner_lefts (set_at x index value) ws = lefts index (drop 2 ws) ++ value_lefts 2 value (enclosed index (drop 2 ws))
  inner_lefts (out channel value) ws = value_lefts 3 value ws
  inner_lefts (post x) ws = []
  inner_lefts (choose test first second) ws = lefts test (drop 1 ws) ++ (actions_lefts first (drop 1 (enclosed test (drop 1 ws))) ++ else_lefts second (after_block first (enclosed test (drop 1 ws))))
  inner_lefts (loop test body) ws = lefts test (drop 1 ws) ++ actions_lefts body (drop 1 (enclosed test (drop 1 ws)))
  inner_lefts (turns count body) ws = actions_lefts body (drop 1 (drop 2 ws))

  -- of the statements of a block, from its first statement on
  pub actions_lefts : Actions → List What → List ℕ
  actions_lefts no_action ws = []
  actions_lefts (action first others) ws = length ws ∷ (inner_lefts first ws ++ actions_lefts others (after_action first ws))

  pub else_lefts : Else → List What → List ℕ
  else_lefts no_else ws = []
  else_lefts (otherwise block) ws = actions_lefts block (drop 1 (drop 1 ws))

abbrev pub block_lefts : Actions → List What → List ℕ
block_lefts block ws = actions_lefts block (drop 1 ws)

-- how many tokens a minus has, if it stands there
abbrev pub sign_tokens : Bool → ℕ
sign_tokens true = 1
sign_tokens false = 0

abbrev pub timing_tokens : Timing → ℕ
timing_tokens (timing.Every period offset) = 4
timing_tokens (timing.Spacing least) = 2

-- what is left behind versions, each behind one token: the number of the deadline, or `else`
abbrev pub after_versions : List (List Stmt) → List What → List What
after_versions [] ws = ws
after_versions (version ∷ versions) ws = after_versions versions (after_block (block_of version) (drop 1 ws))

-- what is left behind an item
abbrev pub after_item : Item → List What → List What
after_item (item.Int x minus n) ws = drop (5 + sign_tokens minus) ws
after_item (item.Bool x b) ws = drop 5 ws
after_item (item.Array x len) ws = drop 6 ws
after_item (item.Task x body) ws = after_block (block_of body) (drop 2 ws)
after_item (item.Event x t deadline versions) ws = after_versions versions (drop (3 + timing_tokens t) ws)
after_item (item.Degrade names) ws = drop (2 * length names + 1) ws
after_item (item.Start x) ws = drop 3 ws

abbrev pub versions_lefts : List (List Stmt) → List What → List ℕ
versions_lefts [] ws = []
versions_lefts (version ∷ versions) ws = block_lefts (block_of version) (drop 1 ws) ++ versions_lefts versions (after_block (block_of version) (drop 1 ws))

-- how many tokens are left where each piece in an item begins
abbrev pub item_lefts : Item → List What → List ℕ
item_lefts (item.Task x body) ws = block_lefts (block_of body) (drop 2 ws)
item_lefts (item.Event x t deadline versions) ws = versions_lefts versions (drop (3 + timing_tokens t) ws)
item_lefts _ ws = []

abbrev pub items_lefts : List Item → List What → List ℕ
items_lefts [] ws = []
items_lefts (i ∷ items) ws = length ws ∷ (item_lefts i ws ++ items_lefts items (after_item i ws))
