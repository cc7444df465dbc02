-- A block with all that it names, as one tree.
use Rattle.std.specs.Prelude.{ℕ, zero, suc, ◌+◌, List, [], ◌∷◌, length, Some, None, slice_get, unwrap_or}
use Rattle.cat_program.specs.declared.syntax.Expr.{Expr}
use Rattle.cat_program.specs.declared.syntax.Stmt.{Stmt}
use Rattle.cat_program.specs.declared.syntax.Stmt.TheVariants.{Set, SetAt, Out, Post, If, While, Repeat}

-- what a simple statement does
pub data Simple : Type 0 where
  SetWord : (word : ℕ) → (value : Expr) → Simple
  SetElement : (base len : ℕ) → (index value : Expr) → Simple
  Emit : (channel : ℕ) → (value : Expr) → Simple
  Raise : (task : ℕ) → Simple

-- A list of statements. Each has its name, the block and the place there, so equal texts at two places are two statements.
pub data Body : Type 0 where
  Empty : Body
  Plain : (block place : ℕ) → Simple → (rest : Body) → Body
  When : (block place : ℕ) → (test : Expr) → (on rest : Body) → Body
  Choice : (block place : ℕ) → (test : Expr) → (on off rest : Body) → Body
  Loop : (block place : ℕ) → (test : Expr) → (body rest : Body) → Body
  Turns : (block place : ℕ) → (count : ℕ) → (body rest : Body) → Body

-- one list after the other
abbrev pub join : Body → Body → Body
join Empty k = k
join (Plain b p s rest) k = Plain b p s (join rest k)
join (When b p e on rest) k = When b p e on (join rest k)
join (Choice b p e on off rest) k = Choice b p e on off (join rest k)
join (Loop b p e body rest) k = Loop b p e body (join rest k)
join (Turns b p n body rest) k = Turns b p n body (join rest k)

-- a statement before others, where f gives the block of each number
abbrev pub with_stmt : (ℕ → Body) → ℕ → ℕ → Stmt → Body → Body
with_stmt f b p (Set word value) rest = Plain b p (SetWord word value) rest
with_stmt f b p (SetAt base len index value) rest = Plain b p (SetElement base len index value) rest
with_stmt f b p (Out channel value) rest = Plain b p (Emit channel value) rest
with_stmt f b p (Post task) rest = Plain b p (Raise task) rest
with_stmt f b p (If test on None) rest = When b p test (f on) rest
with_stmt f b p (If test on (Some off)) rest = Choice b p test (f on) (f off) rest
with_stmt f b p (While test body) rest = Loop b p test (f body) rest
with_stmt f b p (Repeat count body) rest = Turns b p count (f body) rest

-- the statements of block b from place p on
abbrev pub with_stmts : (ℕ → Body) → ℕ → ℕ → List Stmt → Body
with_stmts f b p [] = Empty
with_stmts f b p (s ∷ ss) = with_stmt f b p s (with_stmts f b (p + 1) ss)

abbrev pub block_at : List (List Stmt) → ℕ → List Stmt
block_at blocks b = unwrap_or (slice_get blocks b) []

-- a block's tree down to a depth
unfoldable pub tree_to : ℕ → List (List Stmt) → ℕ → Body
tree_to zero blocks b = Empty
tree_to (suc depth) blocks b = with_stmts (tree_to depth blocks) b 0 (block_at blocks b)

-- a block's whole tree
abbrev pub tree_of : List (List Stmt) → ℕ → Body
tree_of blocks b = tree_to (length blocks) blocks b
