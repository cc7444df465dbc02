-- Expressions and statements as plain data, for definitions by cases.
use Rattle.std.specs.Prelude.{ℕ, Bool, List, [], ◌∷◌, map, Option, Some, None}
use Rattle.cn_base.specs.declared.tree.Expr.{Expr, fold-Expr}
use Rattle.cn_base.specs.declared.tree.Expr.TheOpen.{Expr-F}
use Rattle.cn_base.specs.declared.tree.Stmt.{Stmt, fold-Stmt}
use Rattle.cn_base.specs.declared.tree.Stmt.TheOpen.{Stmt-F}
use Rattle.cn_base.specs.declared.tree.Further.{Further, fold-Further, Further-F}
use Rattle.cn_base.specs.declared.tree.Operator.{Operator}
use Rattle.cn_base.specs.declared.tree.Comparison.{Comparison}
use Rattle.cn_base.specs.declared.tree.Sign.{Sign}

mutual
  -- an expression
  pub data Term : Type 0 where
    number : ℕ → Term
    truth : Bool → Term
    payload : Term
    variable : List ℕ → Term
    element : List ℕ → Term → Term
    signed : Sign → Term → Term
    chain : Term → Furthers → Term
    compare : Term → Comparison → Term → Term

  -- the further operands of a chain, each behind its operator
  pub data Furthers : Type 0 where
    no_further : Furthers
    further : Operator → Term → Furthers → Furthers

mutual
  -- a statement
  pub data Action : Type 0 where
    set : List ℕ → Term → Action
    set_at : List ℕ → Term → Term → Action
    out : ℕ → Term → Action
    post : List ℕ → Action
    choose : Term → Actions → Else → Action
    loop : Term → Actions → Action
    turns : ℕ → Actions → Action

  -- a block
  pub data Actions : Type 0 where
    no_action : Actions
    action : Action → Actions → Actions

  -- the second block of an `if`, if it has one
  pub data Else : Type 0 where
    no_else : Else
    otherwise : Actions → Else

abbrev pub furthers_of : List (Operator × Term) → Furthers
furthers_of [] = no_further
furthers_of (f ∷ fs) = further f.0 f.1 (furthers_of fs)

-- with each inner expression already plain
abbrev pub term_layer : Expr-F Term (Operator × Term) → Term
term_layer (Expr-F.Number n) = number n
term_layer (Expr-F.Truth b) = truth b
term_layer Expr-F.Payload = payload
term_layer (Expr-F.Name x) = variable x
term_layer (Expr-F.Element x index) = element x index
term_layer (Expr-F.Signed sign operand) = signed sign operand
term_layer (Expr-F.Chain first others) = chain first (furthers_of others)
term_layer (Expr-F.Compare first comparison second) = compare first comparison second

abbrev pub further_layer : Further-F Term (Operator × Term) → Operator × Term
further_layer f = (f.operator, f.operand)

unfoldable pub term_of : Expr → Term
term_of = fold-Expr Term (Operator × Term) term_layer further_layer

unfoldable pub further_of : Further → Operator × Term
further_of = fold-Further Term (Operator × Term) term_layer further_layer

abbrev pub actions_of : List Action → Actions
actions_of [] = no_action
actions_of (a ∷ rest) = action a (actions_of rest)

abbrev pub else_of : Option (List Action) → Else
else_of None = no_else
else_of (Some second) = otherwise (actions_of second)

-- with each inner statement already plain
abbrev pub action_layer : Stmt-F Action → Action
action_layer (Stmt-F.Set x value) = set x (term_of value)
action_layer (Stmt-F.SetAt x index value) = set_at x (term_of index) (term_of value)
action_layer (Stmt-F.Out channel value) = out channel (term_of value)
action_layer (Stmt-F.Post x) = post x
action_layer (Stmt-F.If test first second) = choose (term_of test) (actions_of first) (else_of second)
action_layer (Stmt-F.While test body) = loop (term_of test) (actions_of body)
action_layer (Stmt-F.Repeat count body) = turns count (actions_of body)

unfoldable pub action_of : Stmt → Action
action_of = fold-Stmt Action action_layer

abbrev pub block_of : List Stmt → Actions
block_of xs = actions_of (map action_of xs)

abbrev pub else_block : Option (List Stmt) → Else
else_block None = no_else
else_block (Some xs) = otherwise (block_of xs)
