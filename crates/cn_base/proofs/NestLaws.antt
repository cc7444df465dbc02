-- The depth of each kind of statement.
use Rattle.std.proofs.Common.{◌≡◌, ℕ, max, List, Some, None, ap, sym, ◌∙◌, arith}
use Rattle.cn_base.specs.declared.tree.Expr.{Expr}
use Rattle.cn_base.specs.declared.tree.Stmt.{Stmt, fold-Stmt, fold-roll-Stmt}
use Rattle.cn_base.specs.declared.tree.Stmt.TheVariants as stmt
use Rattle.cn_base.specs.declared.tree.Stmt.TheOpen.{Stmt-F}
use Rattle.cn_base.specs.Nests.{layer, nest, block_nest, StatementNests}

nest-set : (x : List ℕ) (e : Expr) → nest (stmt.Set x e) ≡ 0
unfolding nest
nest-set x e = ap (fold-Stmt ℕ layer) (sym (stmt.rolls-Set x e)) ∙ fold-roll-Stmt ℕ layer (Stmt-F.Set x e)

nest-set_at : (x : List ℕ) (i e : Expr) → nest (stmt.SetAt x i e) ≡ 0
unfolding nest
nest-set_at x i e = ap (fold-Stmt ℕ layer) (sym (stmt.rolls-SetAt x i e)) ∙ fold-roll-Stmt ℕ layer (Stmt-F.SetAt x i e)

nest-out : (n : ℕ) (e : Expr) → nest (stmt.Out n e) ≡ 0
unfolding nest
nest-out n e = ap (fold-Stmt ℕ layer) (sym (stmt.rolls-Out n e)) ∙ fold-roll-Stmt ℕ layer (Stmt-F.Out n e)

nest-post : (x : List ℕ) → nest (stmt.Post x) ≡ 0
unfolding nest
nest-post x = ap (fold-Stmt ℕ layer) (sym (stmt.rolls-Post x)) ∙ fold-roll-Stmt ℕ layer (Stmt-F.Post x)

nest-if-none : (e : Expr) (xs : List Stmt) → nest (stmt.If e xs None) ≡ block_nest xs
unfolding nest
nest-if-none e xs =
    let as_two : nest (stmt.If e xs None) ≡ max (block_nest xs) 0 = ap (fold-Stmt ℕ layer) (sym (stmt.rolls-If e xs None)) ∙ fold-roll-Stmt ℕ layer (Stmt-F.If e xs None) in
    let first : max (block_nest xs) 0 ≡ block_nest xs = omega arith in
    as_two ∙ first

nest-if-some : (e : Expr) (xs ys : List Stmt) → nest (stmt.If e xs (Some ys)) ≡ max (block_nest xs) (block_nest ys)
unfolding nest
nest-if-some e xs ys = ap (fold-Stmt ℕ layer) (sym (stmt.rolls-If e xs (Some ys))) ∙ fold-roll-Stmt ℕ layer (Stmt-F.If e xs (Some ys))

nest-while : (e : Expr) (xs : List Stmt) → nest (stmt.While e xs) ≡ block_nest xs
unfolding nest
nest-while e xs = ap (fold-Stmt ℕ layer) (sym (stmt.rolls-While e xs)) ∙ fold-roll-Stmt ℕ layer (Stmt-F.While e xs)

nest-repeat : (n : ℕ) (xs : List Stmt) → nest (stmt.Repeat n xs) ≡ block_nest xs
unfolding nest
nest-repeat n xs = ap (fold-Stmt ℕ layer) (sym (stmt.rolls-Repeat n xs)) ∙ fold-roll-Stmt ℕ layer (Stmt-F.Repeat n xs)

pub statement_nests : StatementNests
statement_nests = record {
  set = nest-set;
  set_at = nest-set_at;
  out = nest-out;
  post = nest-post;
  when = nest-if-none;
  choice = nest-if-some;
  loop = nest-while;
  turns = nest-repeat;
}
