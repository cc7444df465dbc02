-- The reference runs of settings whose programs say the same.
use Rattle.std.proofs.Common.{◌≡◌, Bool, true, false, ℕ, zero, suc, ◌+◌, ◌-◌, inl, inr, List, [], ◌∷◌, ◌++◌, reverse, Option, Some, None, refl, ap, sym, ◌∙◌, subst}
use Rattle.std.specs.Prelude.{map, take, if◌then◌else◌, nat_le, option_map, slice_index, ◌↔◌}
use Rattle.std.specs.Option.{option_and_then}
use Rattle.cat_program.specs.declared.headers.Event.{Event}
use Rattle.cat_program.specs.declared.outs.LogEntry.TheVariants.{Ran}
use Rattle.cat_program.specs.Checked.{body_at, version_at}
use Rattle.cat_program.specs.Meaning.{Handled, Store, TaskStep, handled}
use Rattle.cat_program.specs.OutsValue.{entry_of}
use Rattle.event_arrivals.specs.Arrivals.{Lists}
use Rattle.event_arrivals.specs.Next.{IsNext}
use Rattle.event_arrivals.specs.declared.arrival.Arrival.{Arrival}
use Rattle.reference_run.specs.declared.schedule.Item.{Item}
use Rattle.reference_run.specs.declared.schedule.Schedule.{Schedule}
use Rattle.reference_run.specs.Reference.{Setting, Moment, first_moment, entries_of, after_step, next_moment, advance, advance_to, deadlines_of, done_in, last_start, MayHandle, after_item, Leads, IsRun, IsReference, HasFault}
use Rattle.same_program.specs.Alike.{StepIsLike, no_step, step}
use Rattle.same_runs.specs.Alike.{AreSameSettings, MomentIsLike}
use Rattle.same_runs.proofs.Given.{SameSteps, Likeness, OneEnd}

-- both come to moments that are alike, or neither comes on
data ComeAlike : Option Moment → Option Moment → Type 0 where
  neither : ComeAlike None None
  both : {a b : Moment} → MomentIsLike a b → ComeAlike (Some a) (Some b)

-- a moment that is like one
pub record IsFound (o : Option Moment) (m : Moment) : Type 0 where
  pub other : Moment
  pub is : o ≡ Some other
  pub like : MomentIsLike m other

found_in : (a : Moment) (other : Option Moment) → ComeAlike (Some a) other → IsFound other a
found_in a (Some b) (both like) = record { other = b; is = refl; like = like }
found_in a None like = elim like [ ]

found : (one other : Option Moment) (a : Moment) → ComeAlike one other → one ≡ Some a → IsFound other a
found one other a like is = found_in a other (subst (λ o. ComeAlike o other) is like)

none_in : (other : Option Moment) → ComeAlike None other → other ≡ None
none_in None like = refl
none_in (Some b) like = elim like [ ]

none_found : (one other : Option Moment) → ComeAlike one other → one ≡ None → other ≡ None
none_found one other like is = none_in other (subst (λ o. ComeAlike o other) is like)

pub same_turned : (s t : Setting) → AreSameSettings s t → AreSameSettings t s
same_turned s t same =
    record {
      programs = record {
        variables = sym same.programs.variables;
        words = sym same.programs.words;
        names = sym same.programs.names;
        headers = sym same.programs.headers;
        started = sym same.programs.started;
        tasks = sym same.programs.tasks;
        events = sym same.programs.events;
        mentions = sym same.programs.mentions;
        blocks = sym same.programs.blocks;
      };
      versions = sym same.versions;
      arrivals = sym same.arrivals;
    }

-- ---- steps

then_like : (f g : Moment → Option Moment) → ((m n : Moment) → MomentIsLike m n → ComeAlike (f m) (g n)) → {x y : Option Moment} → ComeAlike x y → ComeAlike (option_and_then f x) (option_and_then g y)
then_like f g each neither = neither
then_like f g each (both {a = a} {b = b} like) = each a b like

step_like : (m n : Moment) → MomentIsLike m n → {x y : Option TaskStep} → StepIsLike x y → ComeAlike (option_map (after_step m) x) (option_map (after_step n) y)
step_like m n like no_step = neither
step_like m n like (step {a = a} {b = b} answer after) =
    both (record {
      state = after;
      steps = ap (λ k. k + 1) like.steps;
      entries = ap (λ l. l ++ entries_of a.answer) like.entries ∙ ap (λ x. n.entries ++ entries_of x) answer;
    })

module _ (given : SameSteps) (s t : Setting) (same : AreSameSettings s t) where
  next_like : (m n : Moment) → MomentIsLike m n → ComeAlike (next_moment (body_at s.program) m) (next_moment (body_at t.program) n)
  next_like m n like = step_like m n like (given.step s.program t.program m.state n.state same.programs like.state)

  advance_like : (k : ℕ) (m n : Moment) → MomentIsLike m n → ComeAlike (advance (body_at s.program) k m) (advance (body_at t.program) k n)
  unfolding advance
  advance_like zero m n like = both like
  advance_like (suc k) m n like = then_like (advance (body_at s.program) k) (advance (body_at t.program) k) (advance_like k) (next_like m n like)

  to_like : (k : ℕ) (m n : Moment) → MomentIsLike m n → ComeAlike (advance_to (body_at s.program) k m) (advance_to (body_at t.program) k n)
  to_like k m n like =
      subst (λ x. ComeAlike (advance_to (body_at s.program) k m) (if nat_le x k then advance (body_at t.program) (k - x) n else None)) like.steps
      (by (nat_le m.steps k) (k - m.steps))
    where
      by : (go : Bool) (j : ℕ) → ComeAlike (if go then advance (body_at s.program) j m else None) (if go then advance (body_at t.program) j n else None)
      by true j = advance_like j m n like
      by false j = neither

  -- ---- items

  may_like : (last : ℕ) (done : ℕ → ℕ) (item : Item) (arrival : Arrival) → MayHandle s last done item arrival → MayHandle t last done item arrival
  may_like last done item arrival may =
      record {
        in_order = may.in_order;
        next = subst (λ (lists : Lists). IsNext lists (deadlines_of t.program) done item.start item.event (done item.event) arrival) same.arrivals
            (subst (λ (hs : List Event). IsNext s.arrivals (map (λ header. header.deadline) hs) done item.start item.event (done item.event) arrival) same.programs.headers may.next);
        version = ap (λ l. slice_index l item.event) (sym same.versions) ∙ may.version;
      }

  after_like : (item : Item) (index : ℕ) (arrival : Arrival) (m n : Moment) → MomentIsLike m n → MomentIsLike (after_item s.program item index arrival m) (after_item t.program item index arrival n)
  after_like item index arrival m n like =
      let one = handled (version_at s.program item.event item.version) arrival.payload m.state.store in
      let other = handled (version_at t.program item.event item.version) arrival.payload n.state.store in
      let outcome : one ≡ other =
      given.handled s.program t.program item.event item.version arrival.payload m.state.store same.programs
      ∙ ap (λ (x : Store). handled (version_at t.program item.event item.version) arrival.payload x) like.state.store in
      let ran = Ran item.event item.version item.steps item.start index in
      record {
        state = record { store = ap (λ (h : Handled). h.store) outcome; current = like.state.current };
        steps = like.steps;
        entries = ap (λ l. l ++ map entry_of one.outs ++ ran ∷ []) like.entries ∙ ap (λ (h : Handled). n.entries ++ map entry_of h.outs ++ ran ∷ []) outcome;
      }

  pub record LeadsAlike (earlier : List Item) (item : Item) (before after : Moment) : Type 0 where
    pub other : Moment
    pub leads : Leads t earlier item before other
    pub like : MomentIsLike after other

  leads_like : (earlier : List Item) (item : Item) (m n after : Moment) → MomentIsLike m n → Leads s earlier item m after → LeadsAlike earlier item n after
  leads_like earlier item m n after like leads =
      let begun = found (advance_to (body_at s.program) item.steps m) (advance_to (body_at t.program) item.steps n) leads.begun (to_like item.steps m n like) leads.steps in
      let index = done_in earlier item.event in
      record {
        other = after_item t.program item index leads.arrival begun.other;
        leads = record {
          begun = begun.other;
          arrival = leads.arrival;
          steps = begun.is;
          may = may_like (last_start earlier) (done_in earlier) item leads.arrival leads.may;
          after_is = refl;
        };
        like = subst (λ x. MomentIsLike x (after_item t.program item index leads.arrival begun.other)) (sym leads.after_is)
            (after_like item index leads.arrival leads.begun begun.other begun.like);
      }

  -- ---- runs

  record RunsAlike (items : List Item) (m : Moment) : Type 0 where
    other : Moment
    run : IsRun t items other
    like : MomentIsLike m other

  run_like : (items : List Item) (m : Moment) → IsRun s items m → RunsAlike items m
  run_like [] m run =
      record {
        other = first_moment t.program;
        run = refl;
        like = subst (λ x. MomentIsLike x (first_moment t.program)) (sym run)
            (record { state = given.first s.program t.program same.programs; steps = refl; entries = refl });
      }
  run_like (item ∷ earlier) m run =
      let before = run_like earlier run.0 run.1 in
      let after = leads_like earlier item run.0 before.other m before.like run.2 in
      record { other = after.other; run = (before.other, before.run, after.leads); like = after.like }

  pub record EndsAlike (schedule : Schedule) (end : Moment) : Type 0 where
    pub other : Moment
    pub run : IsReference t schedule other
    pub like : MomentIsLike end other

  pub reference_like : (schedule : Schedule) (end : Moment) → IsReference s schedule end → EndsAlike schedule end
  reference_like schedule end is =
      let begun = run_like (reverse schedule.items) is.begun is.items in
      let last = found (advance_to (body_at s.program) schedule.total is.begun) (advance_to (body_at t.program) schedule.total begun.other) end (to_like schedule.total is.begun begun.other begun.like) is.total in
      record { other = last.other; run = record { begun = begun.other; items = begun.run; total = last.is }; like = last.like }

-- ---- faults

module _ (given : SameSteps) (likeness : Likeness) (s t : Setting) (same : AreSameSettings s t) where
  moment_turned : (m n : Moment) → MomentIsLike m n → MomentIsLike n m
  moment_turned m n like = record { state = likeness.turned m.state n.state like.state; steps = sym like.steps; entries = sym like.entries }

  pub fault_like : (schedule : Schedule) (i : ℕ) → HasFault s schedule i → HasFault t schedule i
  fault_like schedule i (inl broken) =
      let earlier = reverse (take i schedule.items) in
      let before = run_like given s t same earlier broken.before broken.run in
      inl (record {
        item = broken.item;
        there = broken.there;
        before = before.other;
        run = before.run;
        stuck = λ after leads.
            let back = leads_like given t s (same_turned s t same) earlier broken.item before.other broken.before after (moment_turned broken.before before.other before.like) leads in
            broken.stuck back.other back.leads;
      })
  fault_like schedule i (inr short) =
      let before = run_like given s t same (reverse schedule.items) short.before short.run in
      inr (record {
        all = short.all;
        before = before.other;
        run = before.run;
        stuck = none_found (advance_to (body_at s.program) schedule.total short.before) (advance_to (body_at t.program) schedule.total before.other)
            (to_like given s t same schedule.total short.before before.other before.like) short.stuck;
      })

-- ---- the law

pub same_runs : SameSteps → (s t : Setting) (schedule : Schedule) → AreSameSettings s t → ((end : Moment) × IsReference s schedule end) ↔ ((end : Moment) × IsReference t schedule end)
same_runs given s t schedule same = (
  (λ run. let there = reference_like given s t same schedule run.0 run.1 in (there.other, there.run)),
  (λ run. let back = reference_like given t s (same_turned s t same) schedule run.0 run.1 in (back.other, back.run)),
)

pub same_ends : SameSteps → OneEnd → (s t : Setting) (schedule : Schedule) (a b : Moment) → AreSameSettings s t → IsReference s schedule a → IsReference t schedule b → MomentIsLike a b
same_ends given one s t schedule a b same of_s of_t =
    let there = reference_like given s t same schedule a of_s in
    subst (λ m. MomentIsLike a m) (one t schedule there.other b there.run of_t) there.like

pub same_faults : SameSteps → Likeness → (s t : Setting) (schedule : Schedule) (i : ℕ) → AreSameSettings s t → HasFault s schedule i ↔ HasFault t schedule i
same_faults given likeness s t schedule i same = (fault_like given likeness s t same schedule i, fault_like given likeness t s (same_turned s t same) schedule i)
