-- Steps up to a number of them in all, one by one.
use Rattle.std.proofs.Common.{◌≡◌, ℕ, zero, suc, ◌+◌, ◌-◌, ◌≤◌, ◌<◌, nat_le, true, false, Option, Some, None, refl, sym, ap, ◌∙◌, arith}
use Rattle.std.proofs.lemmas.Bool.Decides.{nat_tests}
use Rattle.std.specs.Prelude.{option_map, if◌then◌else◌}
use Rattle.std.specs.Option.{option_and_then}
use Rattle.cat_program.specs.Body.{Body}
use Rattle.cat_program.specs.Meaning.{TaskStep, task_step_of}
use Rattle.reference_run.specs.Reference.{Moment, advance, advance_to, after_step, next_moment}

to_is : (bodies : ℕ → Body) (n : ℕ) (m : Moment) → m.steps ≤ n → advance_to bodies n m ≡ advance bodies (n - m.steps) m
to_is bodies n m le = let holds : nat_le m.steps n ≡ true = grind (arith, nat_tests) in rw holds refl

pub to_late : (bodies : ℕ → Body) (n : ℕ) (m : Moment) → n < m.steps → advance_to bodies n m ≡ None
to_late bodies n m late = let fails : nat_le m.steps n ≡ false = grind (arith, nat_tests) in rw fails refl

pub to_same : (bodies : ℕ → Body) (n : ℕ) (m : Moment) → m.steps ≡ n → advance_to bodies n m ≡ Some m
unfolding advance
to_same bodies n m same =
    let none : n - m.steps ≡ 0 = omega arith in
    to_is bodies n m (omega arith) ∙ ap (λ k. advance bodies k m) none

advance_once : (bodies : ℕ → Body) (n : ℕ) (m : Moment) → advance bodies (suc n) m ≡ option_and_then (advance bodies n) (next_moment bodies m)
unfolding advance
advance_once bodies n m = refl

pub next_later : (m m' : Moment) (found : Option TaskStep) → option_map (after_step m) found ≡ Some m' → m'.steps ≡ m.steps + 1
next_later m m' None is = cc
next_later m m' (Some step) is = let same : after_step m step ≡ m' = cc in ap (λ (x : Moment). x.steps) (sym same)

pub to_more : (bodies : ℕ → Body) (n : ℕ) (m m' : Moment) → m.steps < n → next_moment bodies m ≡ Some m' → advance_to bodies n m ≡ advance_to bodies n m'
to_more bodies n m m' more is =
    let one : n - m.steps ≡ suc (n - (m.steps + 1)) = omega arith in
    let steps = next_later m m' (task_step_of bodies m.state) is in
    let left : n - (m.steps + 1) ≡ n - m'.steps = omega (arith, steps) in
    to_is bodies n m (omega (arith, more)) ∙ ap (λ k. advance bodies k m) one ∙ advance_once bodies (n - (m.steps + 1)) m
    ∙ ap (option_and_then (advance bodies (n - (m.steps + 1)))) is ∙ ap (λ k. advance bodies k m') left ∙ sym (to_is bodies n m' (omega (arith, more, steps)))

pub to_stuck : (bodies : ℕ → Body) (n : ℕ) (m : Moment) → m.steps < n → task_step_of bodies m.state ≡ None → advance_to bodies n m ≡ None
to_stuck bodies n m more is =
    let one : n - m.steps ≡ suc (n - (m.steps + 1)) = omega arith in
    to_is bodies n m (omega (arith, more)) ∙ ap (λ k. advance bodies k m) one ∙ advance_once bodies (n - (m.steps + 1)) m
    ∙ ap (λ found. option_and_then (advance bodies (n - (m.steps + 1))) (option_map (after_step m) found)) is
