-- What the statements of a block put out, one after the other.
use Rattle.std.proofs.Common.{◌≡◌, ℕ, zero, suc, ◌+◌, ◌*◌, ◌<◌, ◌≤◌, List, [], ◌∷◌, length, drop, Some, None, sym, ap, ◌∙◌, arith, subst}
use Rattle.std.proofs.Math.Nat.{mul-le-mul_left}
use Rattle.std.specs.Prelude.{slice_get}
use Rattle.std.proofs.lemmas.List.{drop_all}
use Rattle.cat_program.specs.declared.syntax.Stmt.{Stmt}
use Rattle.cat_program.specs.declared.syntax.Stmt.TheVariants.{Set, SetAt, Out, Post, If, While, Repeat}
use Rattle.cat_program.specs.Body.{Simple, SetWord, SetElement, Emit, Raise, Body, Empty, Plain, When, Choice, Loop, Turns, with_stmt, with_stmts, tree_of, block_at}
use Rattle.cat_program.specs.Checked.{EachLower, simple_outs, most_outs, most_steps}
use Rattle.cat_program.proofs.Trees.{tree_is}

simple_few : (s : Simple) → simple_outs s ≤ 1
simple_few (SetWord word value) = omega arith
simple_few (SetElement base len index value) = omega arith
simple_few (Emit channel value) = omega arith
simple_few (Raise task) = omega arith

turns_few : (n a b : ℕ) → a ≤ b → n * a ≤ n * (1 + b + 1)
turns_few n a b h = let more : a ≤ 1 + b + 1 = omega arith in mul-le-mul_left n more

-- an output is an instruction
pub outs_few : (body : Body) → most_outs body ≤ most_steps body
outs_few Empty = omega arith
outs_few (Plain b p s rest) = omega (arith, simple_few s, outs_few rest)
outs_few (When b p e on rest) = omega (arith, outs_few on, outs_few rest)
outs_few (Choice b p e on off rest) = omega (arith, outs_few on, outs_few off, outs_few rest)
outs_few (Loop b p e body rest) = outs_few rest
outs_few (Turns b p n body rest) = omega (arith, turns_few n _ _ (outs_few body), outs_few rest)

module _ (f : ℕ → Body) (b n : ℕ) (rest : Body) where
  abbrev One : Stmt → Body
  One s = with_stmt f 0 0 s Empty

  stmt_outs : (s : Stmt) → most_outs (with_stmt f b n s rest) ≡ most_outs (One s) + most_outs rest
  stmt_outs (Set word value) = omega arith
  stmt_outs (SetAt base len index value) = omega arith
  stmt_outs (Out channel value) = omega arith
  stmt_outs (Post task) = omega arith
  stmt_outs (If test on None) = omega arith
  stmt_outs (If test on (Some off)) = omega arith
  stmt_outs (While test body) = omega arith
  stmt_outs (Repeat count body) = omega arith

  stmt_steps : (s : Stmt) → most_steps (with_stmt f b n s rest) ≡ most_steps (One s) + most_steps rest
  stmt_steps (Set word value) = omega arith
  stmt_steps (SetAt base len index value) = omega arith
  stmt_steps (Out channel value) = omega arith
  stmt_steps (Post task) = omega arith
  stmt_steps (If test on None) = omega arith
  stmt_steps (If test on (Some off)) = omega arith
  stmt_steps (While test body) = omega arith
  stmt_steps (Repeat count body) = omega arith

-- the turns of a repeat
pub turns_fit : (f : ℕ → Body) (s : Stmt) (count body : ℕ) → s ≡ Repeat count body → most_steps (with_stmt f 0 0 s Empty) ≤ 1000000 → count * most_outs (f body) ≤ 1000000
turns_fit f s count body e short =
    let here : most_steps (with_stmt f 0 0 (Repeat count body) Empty) ≤ 1000000 = subst (λ x. most_steps (with_stmt f 0 0 x Empty) ≤ 1000000) e short in
    omega (arith, here, turns_few count _ _ (outs_few (f body)))

-- what was counted of a block, and what is left of it
pub record Counting (blocks : List (List Stmt)) (b : ℕ) (ss : List Stmt) (outs n : ℕ) : Type 0 where
  pub whole : most_outs (tree_of blocks b) ≡ outs + most_outs (with_stmts (tree_of blocks) b n (drop n ss))
  pub short : most_steps (with_stmts (tree_of blocks) b n (drop n ss)) ≤ 1000000
  pub few : most_outs (tree_of blocks b) ≤ 1000000

pub counting_starts : (blocks : List (List Stmt)) (b : ℕ) (ss : List Stmt) → EachLower 0 blocks → b < length blocks → ss ≡ block_at blocks b → most_steps (tree_of blocks b) ≤ 1000000 → Counting blocks b ss 0 0
counting_starts blocks b ss lower h e short =
    let same : tree_of blocks b ≡ with_stmts (tree_of blocks) b 0 ss = tree_is blocks b lower h ∙ ap (with_stmts (tree_of blocks) b 0) (sym e) in
    record { whole = omega (arith, ap most_outs same); short = omega (arith, short, ap most_steps same); few = omega (arith, outs_few (tree_of blocks b), short) }

next_drop : (ss : List Stmt) (n : ℕ) (s : Stmt) → slice_get ss n ≡ Some s → drop n ss ≡ s ∷ drop (n + 1) ss
next_drop [] n s e = cc
next_drop (x ∷ ss) zero s e = let same : x ≡ s = cc in ap (λ y. y ∷ ss) same
next_drop (x ∷ ss) (suc n) s e = let more : suc (n + 1) ≡ suc n + 1 = omega arith in next_drop ss n s e ∙ ap (λ j. s ∷ drop j (x ∷ ss)) more

module _ (blocks : List (List Stmt)) (b : ℕ) (ss : List Stmt) (outs n : ℕ) (s : Stmt) (item : slice_get ss n ≡ Some s) (c : Counting blocks b ss outs n) where
  abbrev F : ℕ → Body
  F = tree_of blocks

  abbrev Later : Body
  Later = with_stmts F b (n + 1) (drop (n + 1) ss)

  left_is : with_stmts F b n (drop n ss) ≡ with_stmt F b n s Later
  left_is = ap (with_stmts F b n) (next_drop ss n s item)

  pub counting_short : most_steps (with_stmt F 0 0 s Empty) ≤ 1000000
  counting_short = omega (arith, c.short, ap most_steps left_is, stmt_steps F b n Later s)

  pub counting_goes : Counting blocks b ss (outs + most_outs (with_stmt F 0 0 s Empty)) (n + 1)
  counting_goes = record {
    whole = omega (arith, c.whole, ap most_outs left_is, stmt_outs F b n Later s);
    short = omega (arith, c.short, ap most_steps left_is, stmt_steps F b n Later s);
    few = c.few;
  }

pub counting_ends : (blocks : List (List Stmt)) (b : ℕ) (ss : List Stmt) (outs n : ℕ) → length ss ≤ n → Counting blocks b ss outs n → outs ≡ most_outs (tree_of blocks b)
counting_ends blocks b ss outs n le c = omega (arith, c.whole, ap (λ l. most_outs (with_stmts (tree_of blocks) b n l)) (drop_all n ss le))
