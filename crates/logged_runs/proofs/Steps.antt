-- Steps of the tasks, one by one.
use Rattle.std.proofs.Common.{◌≡◌, ℕ, zero, suc, ◌+◌, ◌-◌, ◌≤◌, nat_le, inl, inr, ◌++◌, length, Option, Some, None, refl, sym, ap, ◌∙◌, subst, arith, length-append}
use Rattle.std.proofs.lemmas.Bool.{leb-true, le-leb, cond-true, cond-false, cases_Bool}
use Rattle.std.specs.Prelude.{option_map}
use Rattle.std.specs.Option.{option_and_then}
use Rattle.cat_program.specs.Body.{Body}
use Rattle.cat_program.specs.Meaning.{TaskStep, task_step_of}
use Rattle.reference_run.specs.Reference.{Moment, advance, advance_to, after_step, entries_of, next_moment}

pub and_then_parts : {A B : Type 0} (f : A → Option B) (o : Option A) (y : B) → option_and_then f o ≡ Some y → (x : A) × (o ≡ Some x) × (f x ≡ Some y)
and_then_parts f None y e = cc
and_then_parts f (Some x) y e = (x, refl, e)

-- a moment that comes next is the one after a step
pub record IsStepped (bodies : ℕ → Body) (m after : Moment) : Type 0 where
  pub step : TaskStep
  pub steps : task_step_of bodies m.state ≡ Some step
  pub is : after_step m step ≡ after

pub next_parts : (bodies : ℕ → Body) (m after : Moment) → next_moment bodies m ≡ Some after → IsStepped bodies m after
next_parts bodies m after is = by (task_step_of bodies m.state) refl is
  where
    by : (o : Option TaskStep) → task_step_of bodies m.state ≡ o → option_map (after_step m) o ≡ Some after → IsStepped bodies m after
    by None e is = cc
    by (Some step) e is = record { step = step; steps = e; is = cc }

pub step_count : (bodies : ℕ → Body) (m after : Moment) → next_moment bodies m ≡ Some after → after.steps ≡ m.steps + 1
step_count bodies m after is = let parts = next_parts bodies m after is in ap (λ (x : Moment). x.steps) (sym parts.is)

pub advance_last : (bodies : ℕ → Body) (n : ℕ) (q r s : Moment) → advance bodies n q ≡ Some r → next_moment bodies r ≡ Some s → advance bodies (suc n) q ≡ Some s
unfolding advance
advance_last bodies zero q r s is more =
    let same : q ≡ r = cc in
    ap (option_and_then (advance bodies zero)) (ap (next_moment bodies) same ∙ more)
advance_last bodies (suc n) q r s is more =
    let parts = and_then_parts (advance bodies n) (next_moment bodies q) r is in
    ap (option_and_then (advance bodies (suc n))) parts.1 ∙ advance_last bodies n parts.0 r s parts.2 more

pub advance_none : (bodies : ℕ → Body) (q : Moment) → advance bodies 0 q ≡ Some q
unfolding advance
advance_none bodies q = refl

pub advance_first : (bodies : ℕ → Body) (n : ℕ) (q : Moment) → advance bodies (suc n) q ≡ option_and_then (advance bodies n) (next_moment bodies q)
unfolding advance
advance_first bodies n q = refl

-- what steps up to a number say
pub to_parts : (bodies : ℕ → Body) (n : ℕ) (q r : Moment) → advance_to bodies n q ≡ Some r → (q.steps ≤ n) × (advance bodies (n - q.steps) q ≡ Some r)
to_parts bodies n q r is =
    elim (cases_Bool (nat_le q.steps n)) [
      | inl low ↦ (leb-true q.steps n low, sym (cond-true (nat_le q.steps n) (advance bodies (n - q.steps) q) None low) ∙ is)
      | inr high ↦ let none : None ≡ Some r = sym (cond-false (nat_le q.steps n) (advance bodies (n - q.steps) q) None high) ∙ is in cc
    ]

pub to_is : (bodies : ℕ → Body) (n : ℕ) (q : Moment) → q.steps ≤ n → advance_to bodies n q ≡ advance bodies (n - q.steps) q
to_is bodies n q low = cond-true (nat_le q.steps n) (advance bodies (n - q.steps) q) None (le-leb q.steps n low)

pub to_here : (bodies : ℕ → Body) (q : Moment) → advance_to bodies q.steps q ≡ Some q
to_here bodies q = let none : q.steps - q.steps ≡ 0 = omega arith in to_is bodies q.steps q (omega arith) ∙ ap (λ (k : ℕ). advance bodies k q) none ∙ advance_none bodies q

pub to_last : (bodies : ℕ → Body) (n : ℕ) (q r s : Moment) → advance_to bodies n q ≡ Some r → next_moment bodies r ≡ Some s → advance_to bodies (n + 1) q ≡ Some s
to_last bodies n q r s is more =
    let low = to_parts bodies n q r is in
    let one : n + 1 - q.steps ≡ suc (n - q.steps) = (let at = low.0 in omega arith) in
    to_is bodies (n + 1) q (let at = low.0 in omega arith) ∙ ap (λ (k : ℕ). advance bodies k q) one ∙ advance_last bodies (n - q.steps) q r s low.1 more

-- steps add entries and no items
pub step_entries : (bodies : ℕ → Body) (m after : Moment) → next_moment bodies m ≡ Some after → length m.entries ≤ length after.entries
step_entries bodies m after is =
    let parts = next_parts bodies m after is in
    let whole : length after.entries ≡ length (m.entries ++ entries_of parts.step.answer) = ap (λ (x : Moment). length x.entries) (sym parts.is) in
    let long = length-append m.entries (entries_of parts.step.answer) in
    omega arith

pub advance_entries : (bodies : ℕ → Body) (n : ℕ) (q r : Moment) → advance bodies n q ≡ Some r → length q.entries ≤ length r.entries
unfolding advance
advance_entries bodies zero q r is = let same : q ≡ r = cc in let e : length q.entries ≡ length r.entries = ap (λ (x : Moment). length x.entries) same in omega arith
advance_entries bodies (suc n) q r is =
    let parts = and_then_parts (advance bodies n) (next_moment bodies q) r is in
    let first = step_entries bodies q parts.0 parts.1 in
    let rest = advance_entries bodies n parts.0 r parts.2 in
    omega arith

-- a moment that fewer steps lead to has no more entries
pub advance_order : (bodies : ℕ → Body) (n k : ℕ) (q a b : Moment) → advance bodies n q ≡ Some a → advance bodies (n + k) q ≡ Some b → length a.entries ≤ length b.entries
advance_order bodies zero k q a b first second =
    let same : q ≡ a = (let here = sym (advance_none bodies q) ∙ first in cc) in
    let e : length q.entries ≡ length a.entries = ap (λ (x : Moment). length x.entries) same in
    let le = advance_entries bodies (zero + k) q b second in
    omega arith
advance_order bodies (suc n) k q a b first second =
    let more : suc n + k ≡ suc (n + k) = omega arith in
    let second' : advance bodies (suc (n + k)) q ≡ Some b = ap (λ (j : ℕ). advance bodies j q) (sym more) ∙ second in
    let one = and_then_parts (advance bodies n) (next_moment bodies q) a (sym (advance_first bodies n q) ∙ first) in
    let two = and_then_parts (advance bodies (n + k)) (next_moment bodies q) b (sym (advance_first bodies (n + k) q) ∙ second') in
    let same : two.0 ≡ one.0 = (let ea = one.1 in let eb = two.1 in cc) in
    advance_order bodies n k one.0 a b one.2 (subst (λ (x : Moment). advance bodies (n + k) x ≡ Some b) same two.2)

pub to_order : (bodies : ℕ → Body) (n k : ℕ) (q a b : Moment) → n ≤ k → advance_to bodies n q ≡ Some a → advance_to bodies k q ≡ Some b → length a.entries ≤ length b.entries
to_order bodies n k q a b order first second =
    let one = to_parts bodies n q a first in
    let two = to_parts bodies k q b second in
    let at : k - q.steps ≡ (n - q.steps) + (k - n) = (let low = one.0 in omega arith) in
    advance_order bodies (n - q.steps) (k - n) q a b one.1 (sym (ap (λ (j : ℕ). advance bodies j q) at) ∙ two.1)
