-- After steps up to a number, so many have been taken.
use Rattle.std.proofs.Common.{◌≡◌, ℕ, zero, suc, ◌+◌, ◌-◌, ◌≤◌, ◌<◌, nat_le, true, false, Option, Some, None, refl, sym, ap, ◌∙◌, arith, inl, inr}
use Rattle.std.proofs.lemmas.Bool.{cases_lt}
use Rattle.std.proofs.lemmas.Bool.Decides.{nat_tests}
use Rattle.std.specs.Prelude.{option_map}
use Rattle.std.specs.Option.{option_and_then}
use Rattle.cat_program.specs.Body.{Body}
use Rattle.cat_program.specs.Meaning.{TaskStep, task_step_of}
use Rattle.reference_run.specs.Reference.{Moment, advance, advance_to, after_step}

to_is : (bodies : ℕ → Body) (n : ℕ) (m : Moment) → m.steps ≤ n → advance_to bodies n m ≡ advance bodies (n - m.steps) m
to_is bodies n m le = let holds : nat_le m.steps n ≡ true = grind (arith, nat_tests) in rw holds refl

to_late : (bodies : ℕ → Body) (n : ℕ) (m : Moment) → n < m.steps → advance_to bodies n m ≡ None
to_late bodies n m late = let fails : nat_le m.steps n ≡ false = grind (arith, nat_tests) in rw fails refl

steps_from : (bodies : ℕ → Body) (n : ℕ) (m end : Moment) → advance bodies n m ≡ Some end → end.steps ≡ m.steps + n
unfolding advance
steps_from bodies zero m end e = let same : m ≡ end = cc in ap (λ (x : Moment). x.steps) (sym same) ∙ omega arith
steps_from bodies (suc n) m end e = go (λ (r : TaskStep) is. steps_from bodies n (after_step m r) end is) (task_step_of bodies m.state) e
  where
    go : ((r : TaskStep) → advance bodies n (after_step m r) ≡ Some end → end.steps ≡ m.steps + 1 + n) → (found : Option TaskStep) → option_and_then (advance bodies n) (option_map (after_step m) found) ≡ Some end → end.steps ≡ m.steps + suc n
    go from None is = cc
    go from (Some r) is = from r is ∙ omega arith

-- after steps up to a number, so many have been taken
pub steps_upto : (bodies : ℕ → Body) (n : ℕ) (m end : Moment) → advance_to bodies n m ≡ Some end → end.steps ≡ n
steps_upto bodies n m end e =
    elim (cases_lt n m.steps) [
      | inl late ↦ (let never : None ≡ Some end = sym (to_late bodies n m late) ∙ e in cc)
      | inr not_late ↦ (let s = steps_from bodies (n - m.steps) m end (sym (to_is bodies n m not_late) ∙ e) in omega (arith, s, not_late))
    ]
