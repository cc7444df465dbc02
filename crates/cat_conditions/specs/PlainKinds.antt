-- Each kind of expression and statement as plain data.
use Rattle.std.specs.Prelude.{◌≡◌, ℕ, Bool, List, Option, map}
use Rattle.cn_base.specs.declared.tree.Expr.{Expr}
use Rattle.cn_base.specs.declared.tree.Expr.TheVariants as expr
use Rattle.cn_base.specs.declared.tree.Further.{Further, out-Further}
use Rattle.cn_base.specs.declared.tree.Stmt.{Stmt}
use Rattle.cn_base.specs.declared.tree.Stmt.TheVariants as stmt
use Rattle.cn_base.specs.declared.tree.Comparison.{Comparison}
use Rattle.cn_base.specs.declared.tree.Sign.{Sign}
use Rattle.cat_conditions.specs.Plain as plain
use Rattle.cat_conditions.specs.Plain.{term_of, further_of, furthers_of, action_of, block_of, else_block}

pub record ExpressionKinds : Type 0 where
  pub number : (n : ℕ) → term_of (expr.Number n) ≡ plain.number n
  pub truth : (b : Bool) → term_of (expr.Truth b) ≡ plain.truth b
  pub payload : term_of expr.Payload ≡ plain.payload
  pub name : (x : List ℕ) → term_of (expr.Name x) ≡ plain.variable x
  pub element : (x : List ℕ) (i : Expr) → term_of (expr.Element x i) ≡ plain.element x (term_of i)
  pub signed : (s : Sign) (e : Expr) → term_of (expr.Signed s e) ≡ plain.signed s (term_of e)
  pub chain : (e : Expr) (fs : List Further) → term_of (expr.Chain e fs) ≡ plain.chain (term_of e) (furthers_of (map further_of fs))
  pub compare : (a : Expr) (c : Comparison) (b : Expr) → term_of (expr.Compare a c b) ≡ plain.compare (term_of a) c (term_of b)
  pub further : (f : Further) → further_of f ≡ ((out-Further f).operator, term_of (out-Further f).operand)

pub record StatementKinds : Type 0 where
  pub set : (x : List ℕ) (e : Expr) → action_of (stmt.Set x e) ≡ plain.set x (term_of e)
  pub set_at : (x : List ℕ) (i e : Expr) → action_of (stmt.SetAt x i e) ≡ plain.set_at x (term_of i) (term_of e)
  pub out : (n : ℕ) (e : Expr) → action_of (stmt.Out n e) ≡ plain.out n (term_of e)
  pub post : (x : List ℕ) → action_of (stmt.Post x) ≡ plain.post x
  pub branch : (e : Expr) (xs : List Stmt) (ys : Option (List Stmt)) → action_of (stmt.If e xs ys) ≡ plain.choose (term_of e) (block_of xs) (else_block ys)
  pub loop : (e : Expr) (xs : List Stmt) → action_of (stmt.While e xs) ≡ plain.loop (term_of e) (block_of xs)
  pub turns : (n : ℕ) (xs : List Stmt) → action_of (stmt.Repeat n xs) ≡ plain.turns n (block_of xs)
