-- How deep blocks nest.
use Rattle.std.specs.Prelude.{◌≡◌, ℕ, ◌+◌, max, List, [], ◌∷◌, map, Option, Some, None}
use Rattle.cn_base.specs.declared.tree.Expr.{Expr}
use Rattle.cn_base.specs.declared.tree.Stmt.{Stmt, fold-Stmt}
use Rattle.cn_base.specs.declared.tree.Stmt.TheVariants as stmt
use Rattle.cn_base.specs.declared.tree.Stmt.TheOpen.{Stmt-F}
use Rattle.cn_base.specs.declared.tree.Item.{Item}
use Rattle.cn_base.specs.declared.tree.Item.TheVariants as item

abbrev pub most : List ℕ → ℕ
most [] = 0
most (n ∷ ns) = max n (most ns)

abbrev pub most_else : Option (List ℕ) → ℕ
most_else None = 0
most_else (Some ns) = most ns + 1

-- with the depth of each inner statement in its place
abbrev pub layer : Stmt-F ℕ → ℕ
layer (Stmt-F.If e then others) = max (most then + 1) (most_else others)
layer (Stmt-F.While e body) = most body + 1
layer (Stmt-F.Repeat n body) = most body + 1
layer _ = 0

-- how many blocks of a statement stand in each other
unfoldable pub nest : Stmt → ℕ
nest = fold-Stmt ℕ layer

abbrev pub block_nest : List Stmt → ℕ
block_nest xs = most (map nest xs) + 1

-- how deep each kind of statement nests
pub record StatementNests : Type 0 where
  pub set : (x : List ℕ) (e : Expr) → nest (stmt.Set x e) ≡ 0
  pub set_at : (x : List ℕ) (i e : Expr) → nest (stmt.SetAt x i e) ≡ 0
  pub out : (n : ℕ) (e : Expr) → nest (stmt.Out n e) ≡ 0
  pub post : (x : List ℕ) → nest (stmt.Post x) ≡ 0
  pub when : (e : Expr) (xs : List Stmt) → nest (stmt.If e xs None) ≡ block_nest xs
  pub choice : (e : Expr) (xs ys : List Stmt) → nest (stmt.If e xs (Some ys)) ≡ max (block_nest xs) (block_nest ys)
  pub loop : (e : Expr) (xs : List Stmt) → nest (stmt.While e xs) ≡ block_nest xs
  pub turns : (n : ℕ) (xs : List Stmt) → nest (stmt.Repeat n xs) ≡ block_nest xs

abbrev pub item_nest : Item → ℕ
item_nest (item.Task x body) = block_nest body
item_nest (item.Event x t d versions) = most (map block_nest versions)
item_nest _ = 0

abbrev pub items_nest : List Item → ℕ
items_nest xs = most (map item_nest xs)
