-- What the places of code stand for in programs that say the same.
use Rattle.std.proofs.Common.{◌≡◌, ℕ, zero, suc, ◌+◌, List, [], ◌∷◌, ◌++◌, Option, Some, None, refl, subst, arith}
use Rattle.std.specs.Prelude.{map, replicate}
use Rattle.cat_program.specs.declared.syntax.Stmt.{Stmt}
use Rattle.cat_program.specs.Body.{Body, tree_of}
use Rattle.cat_program.specs.Places.{Marks, marked, marks_of, tasks_marks, rest_in, body_size}
use Rattle.cat_program.specs.Checked.{Checked, rest_at}
use Rattle.cat_program.specs.Resting.{RestsAt}
use Rattle.cat_resolve.specs.Form.{commands}
use Rattle.same_program.specs.Same.{IsSame}
use Rattle.same_program.specs.Alike.{IsLike, ends, simple, when, choice, loop, turns, ListIsLike, neither, both}
use Rattle.same_program.specs.Own.{RestsLike}
use Rattle.same_program.proofs.Expressions.{same_size}
use Rattle.same_program.proofs.Bodies.{trees_like, join_like}
use Rattle.same_program.proofs.Codes.{simple_size, body_same_size}

-- each place stands for lists that are alike, or for none
data MarksAreLike : Marks → Marks → Type 0 where
  no_more : MarksAreLike [] []
  more : {k l : Option Body} {m n : Marks} → ListIsLike k l → MarksAreLike m n → MarksAreLike (k ∷ m) (l ∷ n)

append : {a b c d : Marks} → MarksAreLike a b → MarksAreLike c d → MarksAreLike (a ++ c) (b ++ d)
append no_more rest = rest
append (more x xs) rest = more x (append xs rest)

nothing : (n : ℕ) → MarksAreLike (replicate n None) (replicate n None)
nothing zero = no_more
nothing (suc n) = more neither (nothing n)

nothing_like : (m n : ℕ) → m ≡ n → MarksAreLike (replicate m None) (replicate n None)
nothing_like m n e = subst (λ x. MarksAreLike (replicate m None) (replicate x None)) e (nothing m)

marked_like : {k l : Body} → IsLike k l → (m n : ℕ) → m ≡ n → MarksAreLike (marked k m) (marked l n)
marked_like like m n e = more (both like) (nothing_like m n e)

marks_like : {a b k l : Body} → IsLike a b → IsLike k l → MarksAreLike (marks_of a k) (marks_of b l)
marks_like ends rest = no_more
marks_like (simple a next) rest = append (marked_like (simple a (join_like next rest)) _ _ (simple_size a)) (marks_like next rest)
marks_like (when {e = e} {f = f} a on next) rest =
    let after = join_like next rest in
    append (marked_like (when a on after) _ _ (same_size e f a)) (append (marks_like on after) (marks_like next rest))
marks_like (choice {e = e} {f = f} a on off next) rest =
    let after = join_like next rest in
    append (marked_like (choice a on off after) _ _ (same_size e f a))
    (append (marks_like on after) (more (both after) (append (marks_like off after) (marks_like next rest))))
marks_like (loop {e = e} {f = f} a body next) rest =
    let again = loop a body (join_like next rest) in
    append (marked_like again _ _ (same_size e f a)) (append (marks_like body again) (more (both again) (marks_like next rest)))
marks_like (turns {m = m} {n = n} a body next) rest =
    let size : 2 + body_size m + 1 ≡ 2 + body_size n + 1 = omega (arith, body_same_size body) in
    append (nothing_like _ _ size) (marks_like next rest)

rest_like : {m n : Marks} → MarksAreLike m n → (pc : ℕ) → ListIsLike (rest_in m pc) (rest_in n pc)
rest_like no_more pc = neither
rest_like (more k rest) zero = k
rest_like (more k rest) (suc pc) = rest_like rest pc

-- ---- the whole program

tasks_like : (xs ys : List (List Stmt)) → commands xs ≡ commands ys → (bs : List ℕ) → MarksAreLike (tasks_marks (map (tree_of xs) bs)) (tasks_marks (map (tree_of ys) bs))
tasks_like xs ys same [] = no_more
tasks_like xs ys same (b ∷ bs) =
    append (more neither (append (marks_like (trees_like xs ys b b same refl) ends) (more (both ends) no_more))) (tasks_like xs ys same bs)

pub same_places : (p q : Checked) (pc : ℕ) → IsSame p q → ListIsLike (rest_at p pc) (rest_at q pc)
same_places p q pc same =
    subst (λ bs. ListIsLike (rest_at p pc) (rest_in (tasks_marks (map (tree_of q.blocks) bs)) pc)) same.tasks
    (rest_like (tasks_like p.blocks q.blocks same.blocks p.tasks) pc)

at_place : (p q : Checked) (pc : ℕ) (k : Body) (other : Option Body) → rest_at q pc ≡ other → ListIsLike (Some k) other → RestsLike q (Some pc) (Some k)
at_place p q pc k (Some l) is like = record { other = Some l; rests = is; like = like }
at_place p q pc k None is like = elim like [ ]

pub same_rests : (p q : Checked) (pc : Option ℕ) (list : Option Body) → IsSame p q → RestsAt p pc list → RestsLike q pc list
same_rests p q None None same is = record { other = None; rests = tt; like = neither }
same_rests p q (Some pc) (Some k) same is =
    at_place p q pc k (rest_at q pc) refl (subst (λ list. ListIsLike list (rest_at q pc)) is (same_places p q pc same))
same_rests p q None (Some k) same is = absurd is
same_rests p q (Some pc) None same is = absurd is
