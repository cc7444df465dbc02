-- The places of a block's statements, one after the other.
use Rattle.std.proofs.Common.{◌≡◌, ℕ, ◌+◌, ◌<◌, ◌≤◌, List, length, drop, Some, sym, ap, ◌∙◌, arith}
use Rattle.std.specs.Prelude.{slice_get}
use Rattle.std.proofs.lemmas.List.{drop_all}
use Rattle.cat_program.specs.declared.syntax.Stmt.{Stmt}
use Rattle.cat_program.specs.Body.{Body, with_stmts, tree_of, block_at}
use Rattle.cat_program.specs.Places.{body_size}
use Rattle.cat_program.specs.Checked.{EachLower}
use Rattle.cat_program.specs.PartLaws.{BlocksAreTrees}
use Rattle.cat_eval.proofs.Frames.{drop_next}
use Rattle.cat_eval.proofs.Parts.{one, stmt_size}

-- what was counted of a block, and what is left of it
pub record Sizing (blocks : List (List Stmt)) (b : ℕ) (ss : List Stmt) (size n : ℕ) : Type 0 where
  pub whole : body_size (tree_of blocks b) ≡ size + body_size (with_stmts (tree_of blocks) b n (drop n ss))
  pub short : body_size (tree_of blocks b) ≤ 60000

pub sizing_starts : BlocksAreTrees → (blocks : List (List Stmt)) (b : ℕ) (ss : List Stmt) → EachLower 0 blocks → b < length blocks → ss ≡ block_at blocks b → body_size (tree_of blocks b) ≤ 60000 → Sizing blocks b ss 0 0
sizing_starts law blocks b ss lower h e short =
    let same : tree_of blocks b ≡ with_stmts (tree_of blocks) b 0 ss = law.tree blocks b lower h ∙ ap (with_stmts (tree_of blocks) b 0) (sym e) in
    record { whole = omega (arith, ap body_size same); short = short }

module _ (blocks : List (List Stmt)) (b : ℕ) (ss : List Stmt) (size n : ℕ) (s : Stmt) (item : slice_get ss n ≡ Some s) (c : Sizing blocks b ss size n) where
  abbrev F : ℕ → Body
  F = tree_of blocks

  abbrev Later : Body
  Later = with_stmts F b (n + 1) (drop (n + 1) ss)

  split : body_size (with_stmts F b n (drop n ss)) ≡ body_size (one F s) + body_size Later
  split = ap (λ l. body_size (with_stmts F b n l)) (drop_next ss n s item) ∙ stmt_size F b n s Later

  pub sizing_short : body_size (one F s) ≤ 60000
  sizing_short = omega (arith, split, c.whole, c.short)

  pub sizing_goes : Sizing blocks b ss (size + body_size (one F s)) (n + 1)
  sizing_goes = record { whole = omega (arith, split, c.whole); short = c.short }

pub sizing_ends : (blocks : List (List Stmt)) (b : ℕ) (ss : List Stmt) (size n : ℕ) → length ss ≤ n → Sizing blocks b ss size n → size ≡ body_size (tree_of blocks b)
sizing_ends blocks b ss size n over c =
    let none : body_size (with_stmts (tree_of blocks) b n (drop n ss)) ≡ 0 = ap (λ l. body_size (with_stmts (tree_of blocks) b n l)) (drop_all n ss over) in
    omega (arith, none, c.whole)
