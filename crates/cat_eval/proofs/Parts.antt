-- A statement of a block, and the statements behind it.
use Rattle.std.proofs.Common.{◌≡◌, ℕ, ◌+◌, ◌<◌, ◌≤◌, length, Some, None, refl, sym, arith}
use Rattle.cat_program.specs.declared.syntax.Stmt.{Stmt}
use Rattle.cat_program.specs.declared.syntax.Stmt.TheVariants.{Set, SetAt, Out, Post, If, While, Repeat}
use Rattle.cat_program.specs.Body.{Body, Empty, join, with_stmt, tree_of}
use Rattle.cat_program.specs.Places.{body_size}
use Rattle.cat_program.specs.Checked.{Checked, EachLower, depth_of}
use Rattle.cat_program.specs.PartLaws.{BlocksAreTrees}
use Rattle.cat_eval.specs.Cursor.{frame_body}
use Rattle.cat_eval.proofs.Frames.{frame}

-- a statement alone
abbrev pub one : (ℕ → Body) → Stmt → Body
one f s = with_stmt f 0 0 s Empty

-- a frame at a block's beginning is the block
pub frame_first : BlocksAreTrees → (p : Checked) → EachLower 0 p.blocks → (b : ℕ) → b < length p.blocks → frame_body p (frame b 0) ≡ tree_of p.blocks b
frame_first law p lower b h = sym (law.tree p.blocks b lower h)

module _ (f : ℕ → Body) (b n : ℕ) where
  pub stmt_join : (s : Stmt) (rest k : Body) → join (with_stmt f b n s rest) k ≡ with_stmt f b n s (join rest k)
  stmt_join (Set word value) rest k = refl
  stmt_join (SetAt base len index value) rest k = refl
  stmt_join (Out channel value) rest k = refl
  stmt_join (Post task) rest k = refl
  stmt_join (If test on None) rest k = refl
  stmt_join (If test on (Some off)) rest k = refl
  stmt_join (While test body) rest k = refl
  stmt_join (Repeat count body) rest k = refl

  pub stmt_size : (s : Stmt) (rest : Body) → body_size (with_stmt f b n s rest) ≡ body_size (one f s) + body_size rest
  stmt_size (Set word value) rest = omega arith
  stmt_size (SetAt base len index value) rest = omega arith
  stmt_size (Out channel value) rest = omega arith
  stmt_size (Post task) rest = omega arith
  stmt_size (If test on None) rest = omega arith
  stmt_size (If test on (Some off)) rest = omega arith
  stmt_size (While test body) rest = omega arith
  stmt_size (Repeat count body) rest = omega arith

  pub stmt_depth : (s : Stmt) (rest : Body) → depth_of rest ≤ depth_of (with_stmt f b n s rest)
  stmt_depth (Set word value) rest = omega arith
  stmt_depth (SetAt base len index value) rest = omega arith
  stmt_depth (Out channel value) rest = omega arith
  stmt_depth (Post task) rest = omega arith
  stmt_depth (If test on None) rest = omega arith
  stmt_depth (If test on (Some off)) rest = omega arith
  stmt_depth (While test body) rest = omega arith
  stmt_depth (Repeat count body) rest = omega arith

-- a statement has a place at least
pub stmt_some : (f : ℕ → Body) (s : Stmt) → 1 ≤ body_size (one f s)
stmt_some f (Set word value) = omega arith
stmt_some f (SetAt base len index value) = omega arith
stmt_some f (Out channel value) = omega arith
stmt_some f (Post task) = omega arith
stmt_some f (If test on None) = omega arith
stmt_some f (If test on (Some off)) = omega arith
stmt_some f (While test body) = omega arith
stmt_some f (Repeat count body) = omega arith
