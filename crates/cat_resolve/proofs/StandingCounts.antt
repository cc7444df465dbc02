-- What is counted of a tree, by the block of the source that it stands for.
use Rattle.std.proofs.Common.{◌≡◌, ℕ, ◌+◌, ◌*◌, ◌≤◌, List, [], ◌∷◌, Some, None, refl, ap, sym, ◌∙◌, subst, arith}
use Rattle.std.specs.Prelude.{max, map}
use Rattle.std.proofs.lemmas.Nat.{mul-le}
use Rattle.cn_base.specs.declared.tree.Stmt.{Stmt, ind-Stmt, map-Stmt, roll-Stmt}
use Rattle.cn_base.specs.declared.tree.Stmt.TheVariants as stmt
use Rattle.cn_base.specs.declared.tree.Stmt.TheOpen.{Stmt-F}
use Rattle.cn_base.specs.Nests.{nest, block_nest, StatementNests}
use Rattle.cat_conditions.specs.PlainKinds.{StatementKinds}
use Rattle.cat_program.specs.Body.{Body}
use Rattle.cat_program.specs.Places.{expr_size, body_size}
use Rattle.cat_program.specs.Checked.{depth_of, most_steps}
use Rattle.cat_conditions.specs.Plain.{Action, Actions, no_action, action, Else, no_else, otherwise, action_of, block_of}
use Rattle.cat_conditions.specs.Plain as plain
use Rattle.cat_conditions.specs.Counts.{size, block_size, block_run}
use Rattle.cat_resolve.specs.Names.{Meanings}
use Rattle.cat_resolve.proofs.Measures.{same_size}
use Rattle.cat_resolve.proofs.Standing.{Stands, ends, sets, sets_at, emits, raises, whens, chooses, loops, turning}

-- ---- instructions

pub size_stands : (names : Meanings) {b : Actions} {k : Body} → Stands names b k → body_size k ≡ block_size b
size_stands names ends = refl
size_stands names (sets {t = t} {e = e} w f r) =
    let v : expr_size e ≡ size t = same_size names t e f in
    omega (arith, v, size_stands names r)
size_stands names (sets_at {i = i} {t = t} {d = d} {e = e} base len f g r) =
    let u : expr_size d ≡ size i = same_size names i d f in
    let v : expr_size e ≡ size t = same_size names t e g in
    omega (arith, u, v, size_stands names r)
size_stands names (emits {t = t} {e = e} f r) =
    let v : expr_size e ≡ size t = same_size names t e f in
    omega (arith, v, size_stands names r)
size_stands names (raises is r) = omega (arith, size_stands names r)
size_stands names (whens {t = t} {e = e} f on r) =
    let v : expr_size e ≡ size t = same_size names t e f in
    omega (arith, v, size_stands names on, size_stands names r)
size_stands names (chooses {t = t} {e = e} f on off r) =
    let v : expr_size e ≡ size t = same_size names t e f in
    omega (arith, v, size_stands names on, size_stands names off, size_stands names r)
size_stands names (loops {t = t} {e = e} f within r) =
    let v : expr_size e ≡ size t = same_size names t e f in
    omega (arith, v, size_stands names within, size_stands names r)
size_stands names (turning is within r) = omega (arith, size_stands names within, size_stands names r)

-- ---- one run

turns_most : (n count m run : ℕ) → n ≤ count → m ≤ run → 1 + (n * (1 + m + 1) + 1) ≤ 1 + (count + 1) + count + count * run
turns_most n count m run few less =
    let each : n * (1 + m + 1) ≡ n + n + n * m = grind arith in
    let product : n * m ≤ count * run = mul-le n m count run few less in
    omega (arith, each, product, few)

pub steps_stand : (names : Meanings) {b : Actions} {k : Body} → Stands names b k → most_steps k ≤ block_run b
steps_stand names ends = omega arith
steps_stand names (sets {t = t} {e = e} w f r) =
    let v : expr_size e ≡ size t = same_size names t e f in
    omega (arith, v, steps_stand names r)
steps_stand names (sets_at {i = i} {t = t} {d = d} {e = e} base len f g r) =
    let u : expr_size d ≡ size i = same_size names i d f in
    let v : expr_size e ≡ size t = same_size names t e g in
    omega (arith, u, v, steps_stand names r)
steps_stand names (emits {t = t} {e = e} f r) =
    let v : expr_size e ≡ size t = same_size names t e f in
    omega (arith, v, steps_stand names r)
steps_stand names (raises is r) = omega (arith, steps_stand names r)
steps_stand names (whens {t = t} {e = e} f on r) =
    let v : expr_size e ≡ size t = same_size names t e f in
    omega (arith, v, steps_stand names on, steps_stand names r)
steps_stand names (chooses {t = t} {e = e} f on off r) =
    let v : expr_size e ≡ size t = same_size names t e f in
    omega (arith, v, steps_stand names on, steps_stand names off, steps_stand names r)
steps_stand names (loops {t = t} {e = e} f within r) = omega (arith, steps_stand names r)
steps_stand names (turning {count = count} {body = body} {n = n} {within = within} is inside r) =
    let few : n ≤ count = omega (arith, is) in
    omega (arith, turns_most n count (most_steps within) (block_run body) few (steps_stand names inside), steps_stand names r)

-- ---- depth

abbrev mutual
  pub action_depth : Action → ℕ
  action_depth (plain.set x t) = 0
  action_depth (plain.set_at x i t) = 0
  action_depth (plain.out c t) = 0
  action_depth (plain.post x) = 0
  action_depth (plain.choose t first second) = max (block_depth first) (else_depth second)
  action_depth (plain.loop t body) = block_depth body
  action_depth (plain.turns count body) = block_depth body

  pub block_depth : Actions → ℕ
  block_depth no_action = 1
  block_depth (action a rest) = max (action_depth a + 1) (block_depth rest)

  pub else_depth : Else → ℕ
  else_depth no_else = 0
  else_depth (otherwise b) = block_depth b

pub depth_stands : (names : Meanings) {b : Actions} {k : Body} → Stands names b k → depth_of k ≤ block_depth b
depth_stands names ends = omega arith
depth_stands names (sets w f r) = omega (arith, depth_stands names r)
depth_stands names (sets_at base len f g r) = omega (arith, depth_stands names r)
depth_stands names (emits f r) = omega (arith, depth_stands names r)
depth_stands names (raises is r) = omega (arith, depth_stands names r)
depth_stands names (whens f on r) = omega (arith, depth_stands names on, depth_stands names r)
depth_stands names (chooses f on off r) = omega (arith, depth_stands names on, depth_stands names off, depth_stands names r)
depth_stands names (loops f within r) = omega (arith, depth_stands names within, depth_stands names r)
depth_stands names (turning is within r) = omega (arith, depth_stands names within, depth_stands names r)

-- a statement as plain data is as deep
IsAsDeep : Stmt → Type 0
IsAsDeep s = action_depth (action_of s) ≡ nest s

block_as_deep : (ys : List ((s : Stmt) × IsAsDeep s)) → block_depth (block_of (map (λ y. y.0) ys)) ≡ block_nest (map (λ y. y.0) ys)
unfolding IsAsDeep
block_as_deep [] = refl
block_as_deep (y ∷ ys) =
    let one : action_depth (action_of y.0) ≡ nest y.0 = y.1 in
    omega (arith, one, block_as_deep ys)

abbrev of_each : List ((s : Stmt) × IsAsDeep s) → List Stmt
of_each ys = map (λ y. y.0) ys

max_zero : (n : ℕ) → max n 0 ≡ n
max_zero n = omega arith

-- a block as plain data is as deep
abbrev pub BlocksAreAsDeep : Type 0
BlocksAreAsDeep = (xs : List Stmt) → block_depth (block_of xs) ≡ block_nest xs

module _ (nests : StatementNests) (kinds : StatementKinds) where
  deep_step : (y : Stmt-F ((s : Stmt) × IsAsDeep s)) → IsAsDeep (roll-Stmt (map-Stmt ((s : Stmt) × IsAsDeep s) Stmt (λ e. e.0) y))
  unfolding IsAsDeep
  deep_step (Stmt-F.Set x e) = subst IsAsDeep (sym (stmt.rolls-Set x e)) (ap action_depth (kinds.set x e) ∙ sym (nests.set x e))
  deep_step (Stmt-F.SetAt x i e) = subst IsAsDeep (sym (stmt.rolls-SetAt x i e)) (ap action_depth (kinds.set_at x i e) ∙ sym (nests.set_at x i e))
  deep_step (Stmt-F.Out n e) = subst IsAsDeep (sym (stmt.rolls-Out n e)) (ap action_depth (kinds.out n e) ∙ sym (nests.out n e))
  deep_step (Stmt-F.Post x) = subst IsAsDeep (sym (stmt.rolls-Post x)) (ap action_depth (kinds.post x) ∙ sym (nests.post x))
  deep_step (Stmt-F.If e xs None) =
      subst IsAsDeep (sym (stmt.rolls-If e (of_each xs) None))
      (ap action_depth (kinds.branch e (of_each xs) None) ∙ ap (λ n. max n 0) (block_as_deep xs) ∙ max_zero (block_nest (of_each xs)) ∙ sym (nests.when e (of_each xs)))
  deep_step (Stmt-F.If e xs (Some ys)) =
      subst IsAsDeep (sym (stmt.rolls-If e (of_each xs) (Some (of_each ys))))
      (ap action_depth (kinds.branch e (of_each xs) (Some (of_each ys))) ∙ ap (λ n. max n (block_depth (block_of (of_each ys)))) (block_as_deep xs)
      ∙ ap (max (block_nest (of_each xs))) (block_as_deep ys) ∙ sym (nests.choice e (of_each xs) (of_each ys)))
  deep_step (Stmt-F.While e xs) =
      subst IsAsDeep (sym (stmt.rolls-While e (of_each xs)))
      (ap action_depth (kinds.loop e (of_each xs)) ∙ block_as_deep xs ∙ sym (nests.loop e (of_each xs)))
  deep_step (Stmt-F.Repeat n xs) =
      subst IsAsDeep (sym (stmt.rolls-Repeat n (of_each xs)))
      (ap action_depth (kinds.turns n (of_each xs)) ∙ block_as_deep xs ∙ sym (nests.turns n (of_each xs)))

  as_deep : (s : Stmt) → IsAsDeep s
  as_deep = ind-Stmt IsAsDeep (λ x y is. subst (λ z. IsAsDeep (roll-Stmt z)) is (deep_step y))

  pub block_deep : BlocksAreAsDeep
  unfolding IsAsDeep
  block_deep [] = refl
  block_deep (x ∷ xs) =
      let one : action_depth (action_of x) ≡ nest x = as_deep x in
      omega (arith, one, block_deep xs)
