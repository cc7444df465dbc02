-- A run comes by the program's own lists.
use Rattle.std.proofs.Common.{◌≡◌, Bool, true, false, ℕ, zero, suc, ◌-◌, List, [], ◌∷◌, reverse, Option, Some, None, refl, sym, subst}
use Rattle.std.specs.Prelude.{if◌then◌else◌, nat_le, option_map}
use Rattle.std.specs.Option.{option_and_then}
use Rattle.cat_program.specs.Checked.{body_at}
use Rattle.cat_program.specs.Meaning.{TaskStep, task_step_of}
use Rattle.reference_run.specs.declared.schedule.Item.{Item}
use Rattle.reference_run.specs.declared.schedule.Schedule.{Schedule}
use Rattle.reference_run.specs.Reference.{Setting, Moment, after_step, next_moment, advance, advance_to, IsRun, IsReference}
use Rattle.same_program.specs.Own.{IsOwnList}
use Rattle.same_runs.proofs.Given.{OwnLists}

some_same : {A : Type 0} {x y : A} → Some x ≡ Some y → x ≡ y
some_same e = (cc)

module _ (given : OwnLists) (s : Setting) where
  abbrev pub IsOwnMoment : Moment → Type 0
  IsOwnMoment m = IsOwnList s.program m.state.current

  led : (one other : Moment) → Some one ≡ Some other → IsOwnMoment one → IsOwnMoment other
  led one other is own = subst IsOwnMoment (some_same is) own

  stepped : (m after : Moment) (o : Option TaskStep) → IsOwnMoment m → task_step_of (body_at s.program) m.state ≡ o → option_map (after_step m) o ≡ Some after → IsOwnMoment after
  stepped m after None own from is = absurd (cc)
  stepped m after (Some step) own from is = led (after_step m step) after is (given.step s.program m.state step own from)

  next_own : (m after : Moment) → IsOwnMoment m → next_moment (body_at s.program) m ≡ Some after → IsOwnMoment after
  next_own m after own is = stepped m after (task_step_of (body_at s.program) m.state) own refl is

  gone_on : (f : Moment → Option Moment) → ((m after : Moment) → IsOwnMoment m → f m ≡ Some after → IsOwnMoment after) → (m after : Moment) (o : Option Moment) → IsOwnMoment m
      → next_moment (body_at s.program) m ≡ o → option_and_then f o ≡ Some after → IsOwnMoment after
  gone_on f each m after None own from is = absurd (cc)
  gone_on f each m after (Some next) own from is = each next after (next_own m next own from) is

  advance_own : (k : ℕ) (m after : Moment) → IsOwnMoment m → advance (body_at s.program) k m ≡ Some after → IsOwnMoment after
  unfolding advance
  advance_own zero m after own is = led m after is own
  advance_own (suc k) m after own is = gone_on (advance (body_at s.program) k) (advance_own k) m after (next_moment (body_at s.program) m) own refl is

  to_own : (k : ℕ) (m after : Moment) → IsOwnMoment m → advance_to (body_at s.program) k m ≡ Some after → IsOwnMoment after
  to_own k m after own is = by (nat_le m.steps k) is
    where
      by : (go : Bool) → (if go then advance (body_at s.program) (k - m.steps) m else None) ≡ Some after → IsOwnMoment after
      by true is = advance_own (k - m.steps) m after own is
      by false is = absurd (cc)

  run_own : (items : List Item) (m : Moment) → IsRun s items m → IsOwnMoment m
  run_own [] m run = subst IsOwnMoment (sym run) (given.first s.program)
  run_own (item ∷ earlier) m run =
      let leads = run.2 in
      subst IsOwnMoment (sym leads.after_is) (to_own item.steps run.0 leads.begun (run_own earlier run.0 run.1) leads.steps)

  pub end_own : (schedule : Schedule) (end : Moment) → IsReference s schedule end → IsOwnMoment end
  end_own schedule end is = to_own schedule.total is.begun end (run_own (reverse schedule.items) is.begun is.items) is.total
