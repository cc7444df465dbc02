-- When a tree of a program stands for a block of a source: the same statements with what their names stand for.
use Rattle.std.proofs.Common.{◌≡◌, ℕ, List, Some, None, subst}
use Rattle.std.specs.Prelude.{min}
use Rattle.cat_program.specs.declared.syntax.Expr.{Expr}
use Rattle.cat_program.specs.declared.syntax.Stmt.{Stmt}
use Rattle.cat_program.specs.declared.syntax.Stmt.TheVariants.{Set, SetAt, Out, Post, If, While, Repeat}
use Rattle.cat_program.specs.Body.{Body, SetWord, SetElement, Emit, Raise, Empty, Plain, When, Choice, Loop, Turns, with_stmt}
use Rattle.cat_conditions.specs.Plain.{Term, Actions, no_action, action, no_else, otherwise}
use Rattle.cat_conditions.specs.Plain as plain
use Rattle.cat_resolve.specs.Names.{Meanings}
use Rattle.cat_resolve.specs.Form.{form, command, set, set_at, out, post, branch, loop, turns}
use Rattle.cat_resolve.specs.Resolved.{formula_of}
use Rattle.cat_resolve.proofs.Targets.{word_of, base_of, len_of, task_of}

pub data Stands (names : Meanings) : Actions → Body → Type 0 where
  ends : Stands names no_action Empty
  sets : {x : List ℕ} {t : Term} {rest : Actions} {b p w : ℕ} {e : Expr} {k : Body} → w ≡ word_of (names x) → form e ≡ formula_of names t
      → Stands names rest k → Stands names (action (plain.set x t) rest) (Plain b p (SetWord w e) k)
  sets_at : {x : List ℕ} {i t : Term} {rest : Actions} {b p base len : ℕ} {d e : Expr} {k : Body} → base ≡ base_of (names x) → len ≡ len_of (names x)
      → form d ≡ formula_of names i → form e ≡ formula_of names t → Stands names rest k → Stands names (action (plain.set_at x i t) rest) (Plain b p (SetElement base len d e) k)
  emits : {c : ℕ} {t : Term} {rest : Actions} {b p channel : ℕ} {e : Expr} {k : Body} → form e ≡ formula_of names t
      → Stands names rest k → Stands names (action (plain.out c t) rest) (Plain b p (Emit channel e) k)
  raises : {x : List ℕ} {rest : Actions} {b p task : ℕ} {k : Body} → task ≡ task_of (names x)
      → Stands names rest k → Stands names (action (plain.post x) rest) (Plain b p (Raise task) k)
  whens : {t : Term} {first rest : Actions} {b p : ℕ} {e : Expr} {on k : Body} → form e ≡ formula_of names t
      → Stands names first on → Stands names rest k → Stands names (action (plain.choose t first no_else) rest) (When b p e on k)
  chooses : {t : Term} {first second rest : Actions} {b p : ℕ} {e : Expr} {on off k : Body} → form e ≡ formula_of names t
      → Stands names first on → Stands names second off → Stands names rest k → Stands names (action (plain.choose t first (otherwise second)) rest) (Choice b p e on off k)
  loops : {t : Term} {body rest : Actions} {b p : ℕ} {e : Expr} {within k : Body} → form e ≡ formula_of names t
      → Stands names body within → Stands names rest k → Stands names (action (plain.loop t body) rest) (Loop b p e within k)
  turning : {count : ℕ} {body rest : Actions} {b p n : ℕ} {within k : Body} → n ≡ min count 65535
      → Stands names body within → Stands names rest k → Stands names (action (plain.turns count body) rest) (Turns b p n within k)

-- ---- a statement before others, where f gives the block of each number

module _ (names : Meanings) (f : ℕ → Body) (b p : ℕ) (rest : Actions) (k : Body) (after : Stands names rest k) where
  pub set_stands : (x : List ℕ) (t : Term) (s : Stmt) → command s ≡ set (word_of (names x)) (formula_of names t) → Stands names (action (plain.set x t) rest) (with_stmt f b p s k)
  set_stands x t (Set w e) h = sets (cc) (cc) after
  set_stands x t _ h = absurd (cc)

  pub set_at_stands : (x : List ℕ) (i t : Term) (s : Stmt) → command s ≡ set_at (base_of (names x)) (len_of (names x)) (formula_of names i) (formula_of names t)
      → Stands names (action (plain.set_at x i t) rest) (with_stmt f b p s k)
  set_at_stands x i t (SetAt base len d e) h = sets_at (cc) (cc) (cc) (cc) after
  set_at_stands x i t _ h = absurd (cc)

  pub out_stands : (c n : ℕ) (t : Term) (s : Stmt) → command s ≡ out n (formula_of names t) → Stands names (action (plain.out c t) rest) (with_stmt f b p s k)
  out_stands c n t (Out channel e) h = emits (cc) after
  out_stands c n t _ h = absurd (cc)

  pub post_stands : (x : List ℕ) (s : Stmt) → command s ≡ post (task_of (names x)) → Stands names (action (plain.post x) rest) (with_stmt f b p s k)
  post_stands x (Post task) h = raises (cc) after
  post_stands x _ h = absurd (cc)

  pub when_stands : (t : Term) (first : Actions) (m : ℕ) (s : Stmt) → Stands names first (f m) → command s ≡ branch (formula_of names t) m None
      → Stands names (action (plain.choose t first no_else) rest) (with_stmt f b p s k)
  when_stands t first m (If e on None) held h =
      let same : m ≡ on = (cc) in
      whens (cc) (subst (λ j. Stands names first (f j)) same held) after
  when_stands t first m _ held h = absurd (cc)

  pub choose_stands : (t : Term) (first second : Actions) (m n : ℕ) (s : Stmt) → Stands names first (f m) → Stands names second (f n)
      → command s ≡ branch (formula_of names t) m (Some n) → Stands names (action (plain.choose t first (otherwise second)) rest) (with_stmt f b p s k)
  choose_stands t first second m n (If e on (Some off)) held other h =
      let one : m ≡ on = (cc) in
      let same_off : n ≡ off = (cc) in
      chooses (cc) (subst (λ j. Stands names first (f j)) one held) (subst (λ j. Stands names second (f j)) same_off other) after
  choose_stands t first second m n _ held other h = absurd (cc)

  pub loop_stands : (t : Term) (body : Actions) (m : ℕ) (s : Stmt) → Stands names body (f m) → command s ≡ loop (formula_of names t) m
      → Stands names (action (plain.loop t body) rest) (with_stmt f b p s k)
  loop_stands t body m (While e at) within h =
      let same : m ≡ at = (cc) in
      loops (cc) (subst (λ j. Stands names body (f j)) same within) after
  loop_stands t body m _ within h = absurd (cc)

  pub turns_stand : (count : ℕ) (body : Actions) (m : ℕ) (s : Stmt) → Stands names body (f m) → command s ≡ turns (min count 65535) m
      → Stands names (action (plain.turns count body) rest) (with_stmt f b p s k)
  turns_stand count body m (Repeat n at) within h =
      let same : m ≡ at = (cc) in
      turning (cc) (subst (λ j. Stands names body (f j)) same within) after
  turns_stand count body m _ within h = absurd (cc)
