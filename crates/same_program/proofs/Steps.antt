-- Lists of statements that are alike do the same.
use Rattle.std.proofs.Common.{◌≡◌, Bool, true, false, ℕ, zero, suc, ◌+◌, ℤ, List, [], ◌∷◌, ◌++◌, Option, Some, None, refl, ap, ◌∙◌, subst}
use Rattle.std.specs.Prelude.{pos, slice_get, slice_index, slice_set, unwrap_or, if◌then◌else◌}
use Rattle.cat_program.specs.Value.{value_of, index_of, is_nought}
use Rattle.cat_program.specs.Body.{Simple, Body}
use Rattle.cat_program.specs.Meaning.{Store, raised, effect, output, TaskState, answer_of, quietly, chosen, list_step, first_posted, taken, step_from, task_step_of, Handled, and_then, unchanged, times, either, handled}
use Rattle.cat_program.specs.Checked.{Checked, body_at, first_state, version_at}
use Rattle.same_program.specs.Same.{IsSame}
use Rattle.same_program.specs.Alike.{SimpleIsLike, sets, sets_at, emits, raises, IsLike, ends, simple, when, choice, loop, turns, ListIsLike, neither, both, StateIsLike, StepIsLike, no_step, step}
use Rattle.same_program.proofs.Expressions.{same_value}
use Rattle.same_program.proofs.Bodies.{trees_like, join_like}

abbrev store_of : List ℤ → List ℕ → Store
store_of words posts = record { words = words; posts = posts }

same_effect : {s t : Simple} → SimpleIsLike s t → (x : ℤ) (m : Store) → effect s x m ≡ effect t x m
same_effect (sets {v = v} {w = w} {e = e} {f = f} a same) x m =
    let value = same_value e f same m.words x in
    ap (λ n. record { words = slice_set m.words n (value_of e m.words x); posts = m.posts }) a
    ∙ ap (λ y. record { words = slice_set m.words w y; posts = m.posts }) value
same_effect (sets_at {a = a} {b = b} {m = l} {n = n} {i = i} {j = j} {e = e} {f = f} p q r same) x m =
    let value = same_value e f same m.words x in
    let index = same_value i j r m.words x in
    let place : a + index_of (value_of i m.words x) l ≡ b + index_of (value_of j m.words x) n = cc in
    ap (λ y. record { words = slice_set m.words y (value_of e m.words x); posts = m.posts }) place
    ∙ ap (λ y. record { words = slice_set m.words (b + index_of (value_of j m.words x) n) y; posts = m.posts }) value
same_effect (emits c same) x m = refl
same_effect (raises e) x m = ap (λ t. record { words = m.words; posts = raised m.posts t }) e

same_output : {s t : Simple} → SimpleIsLike s t → (x : ℤ) (m : Store) → output s x m ≡ output t x m
same_output (sets a same) x m = refl
same_output (sets_at p q r same) x m = refl
same_output (emits {c = c} {d = d} {e = e} {f = f} a same) x m =
    ap (λ n. (n, value_of e m.words x) ∷ []) a ∙ ap (λ y. (d, y) ∷ []) (same_value e f same m.words x)
same_output (raises e) x m = refl

-- ---- tasks

chosen_like : (v w : ℤ) {a b c d : Body} → v ≡ w → IsLike a b → IsLike c d → IsLike (chosen v a c) (chosen w b d)
chosen_like v w {a = a} {b = b} {c = c} {d = d} e on off = subst (λ x. IsLike (chosen v a c) (chosen x b d)) e (by (is_nought v))
  where
    by : (t : Bool) → IsLike (if t then c else a) (if t then d else b)
    by true = off
    by false = on

quietly_like : {m n : Store} {k l : Option Body} → m ≡ n → ListIsLike k l → StepIsLike (Some (quietly m k)) (Some (quietly n l))
quietly_like same list = step refl (record { store = same; current = list })

list_like : {k l : Body} → IsLike k l → (m n : Store) → m ≡ n → StepIsLike (Some (list_step k m)) (Some (list_step l n))
list_like ends m n same = quietly_like same neither
list_like (simple {s = s} {t = t} a rest) m n same =
    step (ap answer_of (same_output a (pos 0) m ∙ ap (output t (pos 0)) same))
    (record { store = same_effect a (pos 0) m ∙ ap (effect t (pos 0)) same; current = both rest })
list_like (when {e = e} {f = f} a on rest) m n same =
    quietly_like same (both (chosen_like _ _ (same_value e f a m.words (pos 0) ∙ ap (λ (s : Store). value_of f s.words (pos 0)) same) (join_like on rest) rest))
list_like (choice {e = e} {f = f} a on off rest) m n same =
    quietly_like same (both (chosen_like _ _ (same_value e f a m.words (pos 0) ∙ ap (λ (s : Store). value_of f s.words (pos 0)) same) (join_like on rest) (join_like off rest)))
list_like (loop {e = e} {f = f} a body rest) m n same =
    quietly_like same (both (chosen_like _ _ (same_value e f a m.words (pos 0) ∙ ap (λ (s : Store). value_of f s.words (pos 0)) same) (join_like body (loop a body rest)) rest))
list_like (turns c body rest) m n same = quietly_like same (both rest)

taken_like : (f g : ℕ → Body) → ((t : ℕ) → IsLike (f t) (g t)) → (s : Store) (t : Option ℕ) → StepIsLike (taken f s t) (taken g s t)
taken_like f g each s None = no_step
taken_like f g each s (Some t) = quietly_like refl (both (each t))

from_like : (f g : ℕ → Body) → ((t : ℕ) → IsLike (f t) (g t)) → (m n : Store) → m ≡ n → {k l : Option Body} → ListIsLike k l → StepIsLike (step_from f m k) (step_from g n l)
from_like f g each m n same neither = subst (λ s. StepIsLike (step_from f m None) (step_from g s None)) same (taken_like f g each m (first_posted m.posts))
from_like f g each m n same (both list) = list_like list m n same

pub same_bodies : (p q : Checked) → IsSame p q → (t : ℕ) → IsLike (body_at p t) (body_at q t)
same_bodies p q same t = trees_like p.blocks q.blocks (slice_index p.tasks t) (slice_index q.tasks t) same.blocks (ap (λ l. slice_index l t) same.tasks)

pub same_step : (p q : Checked) (s t : TaskState) → IsSame p q → StateIsLike s t → StepIsLike (task_step_of (body_at p) s) (task_step_of (body_at q) t)
same_step p q s t same like = from_like (body_at p) (body_at q) (same_bodies p q same) s.store t.store like.store like.current

pub same_first : (p q : Checked) → IsSame p q → StateIsLike (first_state p) (first_state q)
same_first p q same =
    record {
      store = ap (λ w. store_of w p.started) same.words ∙ ap (store_of q.words) same.started;
      current = neither;
    }

-- ---- events

then_same : (a b : Handled) (f g : Store → Handled) → a ≡ b → ((s : Store) → f s ≡ g s) → and_then a f ≡ and_then b g
then_same a b f g e each = ap (λ (h : Handled). record { store = h.store; outs = a.outs ++ h.outs }) (each a.store) ∙ ap (λ h. and_then h g) e

times_same : (n : ℕ) (f g : Store → Handled) → ((s : Store) → f s ≡ g s) → (s : Store) → times n f s ≡ times n g s
times_same zero f g each s = refl
times_same (suc n) f g each s = then_same (f s) (g s) (times n f) (times n g) (each s) (times_same n f g each)

either_same : (v w : ℤ) (a b c d : Handled) → v ≡ w → a ≡ b → c ≡ d → either v a c ≡ either w b d
either_same v w a b c d e on off = ap (λ x. either x a c) e ∙ ap (λ h. either w h c) on ∙ ap (λ h. either w b h) off

same_handled : {k l : Body} → IsLike k l → (x : ℤ) (s : Store) → handled k x s ≡ handled l x s
same_handled ends x s = refl
same_handled (simple {s = m} {t = n} {k = k} {l = l} a rest) x s =
    then_same _ _ (handled k x) (handled l x)
    (ap (λ e. record { store = e; outs = output m x s }) (same_effect a x s) ∙ ap (λ o. record { store = effect n x s; outs = o }) (same_output a x s))
    (same_handled rest x)
same_handled (when {e = e} {f = f} {m = m} {n = n} {k = k} {l = l} a on rest) x s =
    then_same _ _ (handled k x) (handled l x)
    (either_same (value_of e s.words x) (value_of f s.words x) (handled m x s) (handled n x s) (unchanged s) (unchanged s) (same_value e f a s.words x) (same_handled on x s) refl)
    (same_handled rest x)
same_handled (choice {e = e} {f = f} {m = m} {n = n} {x = u} {y = v} {k = k} {l = l} a on off rest) x s =
    then_same _ _ (handled k x) (handled l x)
    (either_same (value_of e s.words x) (value_of f s.words x) (handled m x s) (handled n x s) (handled u x s) (handled v x s) (same_value e f a s.words x) (same_handled on x s) (same_handled off x s))
    (same_handled rest x)
same_handled (loop a body rest) x s = same_handled rest x s
same_handled (turns {c = c} {d = d} {m = m} {n = n} {k = k} {l = l} e body rest) x s =
    then_same _ _ (handled k x) (handled l x)
    (ap (λ i. times i (handled m x) s) e ∙ times_same d (handled m x) (handled n x) (same_handled body x) s)
    (same_handled rest x)

pub same_versions : (p q : Checked) (event version : ℕ) (payload : ℤ) (s : Store) → IsSame p q → handled (version_at p event version) payload s ≡ handled (version_at q event version) payload s
same_versions p q event version payload s same =
    same_handled (trees_like p.blocks q.blocks _ _ same.blocks (ap (λ l. slice_index (unwrap_or (slice_get l event) []) version) same.events)) payload s
