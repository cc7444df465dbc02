-- A block's tree is its statements, over the trees of the blocks that they name.
use Rattle.std.proofs.Common.{◌≡◌, ℕ, zero, suc, ◌+◌, ◌<◌, List, [], ◌∷◌, length, Some, None, refl, ap, ◌∙◌, subst, arith}
use Rattle.std.specs.Prelude.{slice_get}
use Rattle.cat_program.specs.declared.syntax.Stmt.{Stmt}
use Rattle.cat_program.specs.declared.syntax.Stmt.TheVariants.{Set, SetAt, Out, Post, If, While, Repeat}
use Rattle.cat_program.specs.Body.{Body, SetWord, SetElement, Emit, Raise, Plain, When, Choice, Loop, Turns, with_stmt, with_stmts, block_at, tree_to, tree_of}
use Rattle.cat_program.specs.Checked.{NamesLower, AllLower, EachLower}

module _ (f g : ℕ → Body) (b : ℕ) (same : (a : ℕ) → a < b → f a ≡ g a) where
  same_stmt : (p : ℕ) (s : Stmt) (x y : Body) → NamesLower b s → x ≡ y → with_stmt f b p s x ≡ with_stmt g b p s y
  same_stmt p (Set word value) x y lower e = ap (Plain b p (SetWord word value)) e
  same_stmt p (SetAt base len index value) x y lower e = ap (Plain b p (SetElement base len index value)) e
  same_stmt p (Out channel value) x y lower e = ap (Plain b p (Emit channel value)) e
  same_stmt p (Post task) x y lower e = ap (Plain b p (Raise task)) e
  same_stmt p (If test on None) x y lower e = ap (λ d. When b p test d x) (same on lower) ∙ ap (When b p test (g on)) e
  same_stmt p (If test on (Some off)) x y lower e =
      ap (λ d. Choice b p test d (f off) x) (same on lower.0) ∙ ap (λ d. Choice b p test (g on) d x) (same off lower.1) ∙ ap (Choice b p test (g on) (g off)) e
  same_stmt p (While test body) x y lower e = ap (λ d. Loop b p test d x) (same body lower) ∙ ap (Loop b p test (g body)) e
  same_stmt p (Repeat count body) x y lower e = ap (λ d. Turns b p count d x) (same body lower) ∙ ap (Turns b p count (g body)) e

  same_stmts : (p : ℕ) (ss : List Stmt) → AllLower b ss → with_stmts f b p ss ≡ with_stmts g b p ss
  same_stmts p [] lower = refl
  same_stmts p (s ∷ ss) lower = same_stmt p s _ _ lower.0 (same_stmts (p + 1) ss lower.1)

pub lower_at : (blocks : List (List Stmt)) (n k m : ℕ) → n + k ≡ m → EachLower n blocks → AllLower m (block_at blocks k)
lower_at [] n k m e h = tt
lower_at (block ∷ blocks) n zero m e h = let here : n ≡ m = omega arith in subst (λ j. AllLower j block) here h.0
lower_at (block ∷ blocks) n (suc k) m e h = lower_at blocks (n + 1) k m (omega arith) h.1

pub stmt_lower : (b : ℕ) (ss : List Stmt) (k : ℕ) (s : Stmt) → AllLower b ss → slice_get ss k ≡ Some s → NamesLower b s
stmt_lower b [] k s h e = cc
stmt_lower b (x ∷ ss) zero s h e = let same : x ≡ s = cc in subst (NamesLower b) same h.0
stmt_lower b (x ∷ ss) (suc k) s h e = stmt_lower b ss k s h.1 e

-- one level more changes nothing of a block that is low enough
stable : (blocks : List (List Stmt)) → EachLower 0 blocks → (depth b : ℕ) → b < depth → tree_to depth blocks b ≡ tree_to (suc depth) blocks b
unfolding tree_to
stable blocks lower zero b h = absurd (omega arith)
stable blocks lower (suc depth) b h =
    same_stmts (tree_to depth blocks) (tree_to (suc depth) blocks) b (λ a below. stable blocks lower depth a (omega arith)) 0 (block_at blocks b) (lower_at blocks 0 b b (omega arith) lower)

level : (blocks : List (List Stmt)) → EachLower 0 blocks → (n b : ℕ) → b < n → tree_to n blocks b ≡ with_stmts (tree_to n blocks) b 0 (block_at blocks b)
unfolding tree_to
level blocks lower zero b h = absurd (omega arith)
level blocks lower (suc n) b h =
    same_stmts (tree_to n blocks) (tree_to (suc n) blocks) b (λ a below. stable blocks lower n a (omega arith)) 0 (block_at blocks b) (lower_at blocks 0 b b (omega arith) lower)

pub tree_is : (blocks : List (List Stmt)) (b : ℕ) → EachLower 0 blocks → b < length blocks → tree_of blocks b ≡ with_stmts (tree_of blocks) b 0 (block_at blocks b)
tree_is blocks b lower h = level blocks lower (length blocks) b h
