-- The trees of blocks that say the same are alike.
use Rattle.std.proofs.Common.{◌≡◌, ℕ, zero, suc, ◌+◌, List, [], ◌∷◌, length, Some, None, refl, ap, sym, ◌∙◌, subst}
use Rattle.std.specs.Prelude.{map}
use Rattle.std.proofs.lemmas.List.{length-map}
use Rattle.cat_program.specs.declared.syntax.Stmt.{Stmt}
use Rattle.cat_program.specs.declared.syntax.Stmt.TheVariants.{Set, SetAt, Out, Post, If, While, Repeat}
use Rattle.cat_program.specs.Body.{Body, with_stmt, with_stmts, block_at, tree_to, tree_of, join}
use Rattle.cat_resolve.specs.Form.{command, commands}
use Rattle.same_program.specs.Alike.{sets, sets_at, emits, raises, IsLike, ends, simple, when, choice, loop, turns}

-- the trees of the same blocks
module _ (f g : ℕ → Body) (each : (b : ℕ) → IsLike (f b) (g b)) (b p : ℕ) (k l : Body) (rest : IsLike k l) where
  at_numbers : (m n : ℕ) → m ≡ n → IsLike (f m) (g n)
  at_numbers m n e = subst (λ x. IsLike (f m) (g x)) e (each m)

  stmt_like : (s t : Stmt) → command s ≡ command t → IsLike (with_stmt f b p s k) (with_stmt g b p t l)
  stmt_like (Set v e) (Set w h) same = simple (sets (cc) (cc)) rest
  stmt_like (SetAt a m i e) (SetAt c n j h) same = simple (sets_at (cc) (cc) (cc) (cc)) rest
  stmt_like (Out c e) (Out d h) same = simple (emits (cc) (cc)) rest
  stmt_like (Post t) (Post u) same = simple (raises (cc)) rest
  stmt_like (If e m None) (If h n None) same = when (cc) (at_numbers m n (cc)) rest
  stmt_like (If e m (Some o)) (If h n (Some q)) same = choice (cc) (at_numbers m n (cc)) (at_numbers o q (cc)) rest
  stmt_like (While e m) (While h n) same = loop (cc) (at_numbers m n (cc)) rest
  stmt_like (Repeat c m) (Repeat d n) same = turns (cc) (at_numbers m n (cc)) rest
  stmt_like _ _ same = absurd (cc)

head_is : {A : Type 0} {x y : A} {xs ys : List A} → x ∷ xs ≡ y ∷ ys → x ≡ y
head_is e = (cc)

tail_is : {A : Type 0} {x y : A} {xs ys : List A} → x ∷ xs ≡ y ∷ ys → xs ≡ ys
tail_is e = (cc)

module _ (f g : ℕ → Body) (each : (b : ℕ) → IsLike (f b) (g b)) (b : ℕ) where
  stmts_like : (p : ℕ) (ss ts : List Stmt) → map command ss ≡ map command ts → IsLike (with_stmts f b p ss) (with_stmts g b p ts)
  stmts_like p [] [] same = ends
  stmts_like p (s ∷ ss) (t ∷ ts) same =
      stmt_like f g each b p (with_stmts f b (p + 1) ss) (with_stmts g b (p + 1) ts) (stmts_like (p + 1) ss ts (tail_is same)) s t (head_is same)
  stmts_like p [] (t ∷ ts) same = absurd (cc)
  stmts_like p (s ∷ ss) [] same = absurd (cc)

block_same : (xs ys : List (List Stmt)) (b : ℕ) → commands xs ≡ commands ys → map command (block_at xs b) ≡ map command (block_at ys b)
block_same [] [] b same = refl
block_same (x ∷ xs) (y ∷ ys) zero same = head_is same
block_same (x ∷ xs) (y ∷ ys) (suc b) same = block_same xs ys b (tail_is same)
block_same [] (y ∷ ys) b same = absurd (cc)
block_same (x ∷ xs) [] b same = absurd (cc)

tree_like : (d : ℕ) (xs ys : List (List Stmt)) (b : ℕ) → commands xs ≡ commands ys → IsLike (tree_to d xs b) (tree_to d ys b)
unfolding tree_to
tree_like zero xs ys b same = ends
tree_like (suc d) xs ys b same =
    stmts_like (tree_to d xs) (tree_to d ys) (λ c. tree_like d xs ys c same) b 0 (block_at xs b) (block_at ys b) (block_same xs ys b same)

pub trees_like : (xs ys : List (List Stmt)) (b c : ℕ) → commands xs ≡ commands ys → b ≡ c → IsLike (tree_of xs b) (tree_of ys c)
trees_like xs ys b c same e =
    let long : length xs ≡ length ys = sym (length-map xs (map command)) ∙ ap length same ∙ length-map ys (map command) in
    subst (λ n. IsLike (tree_to (length xs) xs b) (tree_to n ys c)) long (subst (λ n. IsLike (tree_to (length xs) xs b) (tree_to (length xs) ys n)) e (tree_like (length xs) xs ys b same))

pub join_like : {a b k l : Body} → IsLike a b → IsLike k l → IsLike (join a k) (join b l)
join_like ends rest = rest
join_like (simple s r) rest = simple s (join_like r rest)
join_like (when e m r) rest = when e m (join_like r rest)
join_like (choice e m x r) rest = choice e m x (join_like r rest)
join_like (loop e m r) rest = loop e m (join_like r rest)
join_like (turns c m r) rest = turns c m (join_like r rest)
