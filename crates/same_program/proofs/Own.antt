-- A program's own lists.
use Rattle.std.proofs.Common.{◌≡◌, Bool, true, false, ℕ, zero, suc, ◌+◌, ℤ, pos, List, [], ◌∷◌, ◌++◌, Option, Some, None, refl, ap, sym, ◌∙◌, subst, arith}
use Rattle.std.specs.Prelude.{map, replicate, slice_get, slice_index, if◌then◌else◌}
use Rattle.std.specs.Option.{option_and_then}
use Rattle.cat_program.specs.declared.syntax.Stmt.{Stmt}
use Rattle.cat_program.specs.declared.syntax.Stmt.TheVariants.{Set, SetAt, Out, Post, If, While, Repeat}
use Rattle.cat_program.specs.Value.{is_nought, value_of}
use Rattle.cat_program.specs.Body.{Body, Empty, Plain, When, Choice, Loop, Turns, join, with_stmt, with_stmts, block_at, tree_to, tree_of}
use Rattle.cat_program.specs.Places.{expr_size, operands_size, body_size, Marks, marked, marks_of, tasks_marks, rest_in}
use Rattle.cat_program.specs.Meaning.{Store, TaskState, TaskStep, chosen, list_step, first_posted, taken, step_from, task_step_of}
use Rattle.cat_program.specs.Checked.{Checked, body_at, rest_at}
use Rattle.same_program.specs.Alike.{IsLike, ends, simple, when, choice, loop, turns, ListIsLike, both}
use Rattle.same_program.specs.Own.{simple_of, test_of, IsOwn, IsOwnList}

some_same : {A : Type 0} {x y : A} → Some x ≡ Some y → x ≡ y
some_same e = (cc)

-- ---- trees

module _ (blocks : List (List Stmt)) where
  join_own : (a k : Body) → IsOwn blocks a → IsOwn blocks k → IsOwn blocks (join a k)
  join_own Empty k own after = after
  join_own (Plain b p s rest) k own after = (own.0, join_own rest k own.1 after)
  join_own (When b p e on rest) k own after = (own.0, own.1, join_own rest k own.2 after)
  join_own (Choice b p e on off rest) k own after = (own.0, own.1, own.2, join_own rest k own.3 after)
  join_own (Loop b p e body rest) k own after = (own.0, own.1, join_own rest k own.2 after)
  join_own (Turns b p n body rest) k own after = (own.0, join_own rest k own.1 after)

  module _ (f : ℕ → Body) (each : (b : ℕ) → IsOwn blocks (f b)) (b : ℕ) where
    stmt_own : (p : ℕ) (s : Stmt) (rest : Body) → slice_get (block_at blocks b) p ≡ Some s → IsOwn blocks rest → IsOwn blocks (with_stmt f b p s rest)
    stmt_own p (Set v e) rest at own = (ap (option_and_then simple_of) at, own)
    stmt_own p (SetAt base len i e) rest at own = (ap (option_and_then simple_of) at, own)
    stmt_own p (Out c e) rest at own = (ap (option_and_then simple_of) at, own)
    stmt_own p (Post t) rest at own = (ap (option_and_then simple_of) at, own)
    stmt_own p (If e on None) rest at own = (ap (option_and_then test_of) at, each on, own)
    stmt_own p (If e on (Some off)) rest at own = (ap (option_and_then test_of) at, each on, each off, own)
    stmt_own p (While e body) rest at own = (ap (option_and_then test_of) at, each body, own)
    stmt_own p (Repeat n body) rest at own = (each body, own)

    stmts_own : (p : ℕ) (ss : List Stmt) → ((k : ℕ) → slice_get (block_at blocks b) (p + k) ≡ slice_get ss k) → IsOwn blocks (with_stmts f b p ss)
    stmts_own p [] at = tt
    stmts_own p (s ∷ ss) at =
        let here : p ≡ p + 0 = omega arith in
        stmt_own p s (with_stmts f b (p + 1) ss) (ap (slice_get (block_at blocks b)) here ∙ at 0)
        (stmts_own (p + 1) ss (λ k. let on : p + 1 + k ≡ p + suc k = omega arith in ap (slice_get (block_at blocks b)) on ∙ at (suc k)))

  tree_own_to : (d b : ℕ) → IsOwn blocks (tree_to d blocks b)
  unfolding tree_to
  tree_own_to zero b = tt
  tree_own_to (suc d) b =
      stmts_own (tree_to d blocks) (tree_own_to d) b 0 (block_at blocks b)
      (λ k. let same : 0 + k ≡ k = omega arith in ap (slice_get (block_at blocks b)) same)

  tree_own : (b : ℕ) → IsOwn blocks (tree_of blocks b)
  tree_own b = tree_own_to _ b

  -- own lists that are alike are one
  one_own : {k l : Body} → IsLike k l → IsOwn blocks k → IsOwn blocks l → k ≡ l
  one_own ends x y = refl
  one_own (simple {b = b} {p = p} {s = s} {t = t} {k = k} {l = l} a rest) x y =
      let text : s ≡ t = some_same (sym x.0 ∙ y.0) in
      ap (λ r. Plain b p s r) (one_own rest x.1 y.1) ∙ ap (λ i. Plain b p i l) text
  one_own (when {b = b} {p = p} {e = e} {f = f} {m = m} {n = n} {k = k} {l = l} a on rest) x y =
      let text : e ≡ f = some_same (sym x.0 ∙ y.0) in
      let first : m ≡ n = one_own on x.1 y.1 in
      let next : k ≡ l = one_own rest x.2 y.2 in
      ap (λ i. When b p i m k) text ∙ ap (λ r. When b p f r k) first ∙ ap (λ r. When b p f n r) next
  one_own (choice {b = b} {p = p} {e = e} {f = f} {m = m} {n = n} {x = u} {y = v} {k = k} {l = l} a on off rest) x y =
      let text : e ≡ f = some_same (sym x.0 ∙ y.0) in
      let first : m ≡ n = one_own on x.1 y.1 in
      let second : u ≡ v = one_own off x.2 y.2 in
      let next : k ≡ l = one_own rest x.3 y.3 in
      ap (λ i. Choice b p i m u k) text ∙ ap (λ r. Choice b p f r u k) first ∙ ap (λ r. Choice b p f n r k) second ∙ ap (λ r. Choice b p f n v r) next
  one_own (loop {b = b} {p = p} {e = e} {f = f} {m = m} {n = n} {k = k} {l = l} a body rest) x y =
      let text : e ≡ f = some_same (sym x.0 ∙ y.0) in
      let first : m ≡ n = one_own body x.1 y.1 in
      let next : k ≡ l = one_own rest x.2 y.2 in
      ap (λ i. Loop b p i m k) text ∙ ap (λ r. Loop b p f r k) first ∙ ap (λ r. Loop b p f n r) next
  one_own (turns {b = b} {p = p} {c = c} {d = d} {m = m} {n = n} {k = k} {l = l} a body rest) x y =
      let first : m ≡ n = one_own body x.0 y.0 in
      let next : k ≡ l = one_own rest x.1 y.1 in
      ap (λ i. Turns b p i m k) a ∙ ap (λ r. Turns b p d r k) first ∙ ap (λ r. Turns b p d n r) next

pub one_list : (p : Checked) (k l : Option Body) → IsOwnList p k → IsOwnList p l → ListIsLike k l → k ≡ l
one_list p None None x y like = refl
one_list p (Some k) (Some l) x y (both like) = ap Some (one_own p.blocks like x y)
one_list p None (Some l) x y like = elim like [ ]
one_list p (Some k) None x y like = elim like [ ]

-- each place stands for a list of the program's own, or for none
data AreOwn (p : Checked) : Marks → Type 0 where
  no_more : AreOwn p []
  more : {list : Option Body} {marks : Marks} → IsOwnList p list → AreOwn p marks → AreOwn p (list ∷ marks)

module _ (p : Checked) where
  -- ---- places

  append : {m n : Marks} → AreOwn p m → AreOwn p n → AreOwn p (m ++ n)
  append no_more after = after
  append (more own rest) after = more own (append rest after)

  nothing : (n : ℕ) → AreOwn p (replicate n None)
  nothing zero = no_more
  nothing (suc n) = more tt (nothing n)

  one_mark : (k : Body) {marks : Marks} → IsOwn p.blocks k → AreOwn p marks → AreOwn p (Some k ∷ marks)
  one_mark k own rest = more own rest

  marked_own : (k : Body) (n : ℕ) → IsOwn p.blocks k → AreOwn p (marked k n)
  marked_own k n own = one_mark k own (nothing n)

  marks_own : (a k : Body) → IsOwn p.blocks a → IsOwn p.blocks k → AreOwn p (marks_of a k)
  marks_own Empty k own after = no_more
  marks_own (Plain b i s rest) k own after =
      append (marked_own (Plain b i s (join rest k)) (operands_size s) (own.0, join_own p.blocks rest k own.1 after)) (marks_own rest k own.1 after)
  marks_own (When b i e on rest) k own after =
      let next = join_own p.blocks rest k own.2 after in
      append (marked_own (When b i e on (join rest k)) (expr_size e) (own.0, own.1, next)) (append (marks_own on (join rest k) own.1 next) (marks_own rest k own.2 after))
  marks_own (Choice b i e on off rest) k own after =
      let next = join_own p.blocks rest k own.3 after in
      let second = append (marks_own off (join rest k) own.2 next) (marks_own rest k own.3 after) in
      append (marked_own (Choice b i e on off (join rest k)) (expr_size e) (own.0, own.1, own.2, next))
      (append (marks_own on (join rest k) own.1 next) (one_mark (join rest k) next second))
  marks_own (Loop b i e body rest) k own after =
      let again : IsOwn p.blocks (Loop b i e body (join rest k)) = (own.0, own.1, join_own p.blocks rest k own.2 after) in
      append (marked_own (Loop b i e body (join rest k)) (expr_size e) again)
      (append (marks_own body (Loop b i e body (join rest k)) own.1 again) (one_mark (Loop b i e body (join rest k)) again (marks_own rest k own.2 after)))
  marks_own (Turns b i n body rest) k own after = append (nothing (2 + body_size body + 1)) (marks_own rest k own.1 after)

  tasks_own : (bs : List ℕ) → AreOwn p (tasks_marks (map (tree_of p.blocks) bs))
  tasks_own [] = no_more
  tasks_own (b ∷ bs) =
      more tt (append (append (marks_own (tree_of p.blocks b) Empty (tree_own p.blocks b) tt) (one_mark Empty tt no_more)) (tasks_own bs))

  rest_own : {marks : Marks} → AreOwn p marks → (pc : ℕ) → IsOwnList p (rest_in marks pc)
  rest_own no_more pc = tt
  rest_own (more own rest) zero = own
  rest_own (more own rest) (suc pc) = rest_own rest pc

  pub own_place : (pc : ℕ) → IsOwnList p (rest_at p pc)
  own_place pc = rest_own (tasks_own p.tasks) pc

  -- ---- steps

  chosen_own : (v : ℤ) (on off : Body) → IsOwn p.blocks on → IsOwn p.blocks off → IsOwn p.blocks (chosen v on off)
  chosen_own v on off x y = by (is_nought v)
    where
      by : (t : Bool) → IsOwn p.blocks (if t then off else on)
      by true = y
      by false = x

  list_own : (k : Body) (s : Store) → IsOwn p.blocks k → IsOwnList p (list_step k s).after.current
  list_own Empty s own = tt
  list_own (Plain b i a rest) s own = own.1
  list_own (When b i e on rest) s own = chosen_own (value_of e s.words (pos 0)) (join on rest) rest (join_own p.blocks on rest own.1 own.2) own.2
  list_own (Choice b i e on off rest) s own =
      chosen_own (value_of e s.words (pos 0)) (join on rest) (join off rest) (join_own p.blocks on rest own.1 own.3) (join_own p.blocks off rest own.2 own.3)
  list_own (Loop b i e body rest) s own =
      chosen_own (value_of e s.words (pos 0)) (join body (Loop b i e body rest)) rest (join_own p.blocks body (Loop b i e body rest) own.1 own) own.2
  list_own (Turns b i n body rest) s own = own.1

  led : (one step : TaskStep) → Some one ≡ Some step → IsOwnList p one.after.current → IsOwnList p step.after.current
  led one step is own = subst (λ (x : TaskStep). IsOwnList p x.after.current) (some_same is) own

  taken_own : (s : Store) (t : Option ℕ) (step : TaskStep) → taken (body_at p) s t ≡ Some step → IsOwnList p step.after.current
  taken_own s None step is = absurd (cc)
  taken_own s (Some t) step is = led _ step is (tree_own p.blocks (slice_index p.tasks t))

  from_own : (s : Store) (list : Option Body) (step : TaskStep) → IsOwnList p list → step_from (body_at p) s list ≡ Some step → IsOwnList p step.after.current
  from_own s None step own is = taken_own s (first_posted s.posts) step is
  from_own s (Some k) step own is = led (list_step k s) step is (list_own k s own)

  pub own_step : (s : TaskState) (step : TaskStep) → IsOwnList p s.current → task_step_of (body_at p) s ≡ Some step → IsOwnList p step.after.current
  own_step s step own is = from_own s.store s.current step own is
