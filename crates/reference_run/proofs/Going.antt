-- One item after those before it.
use Rattle.std.proofs.Common.{◌≡◌, ◌≢◌, ℕ, ◌+◌, ◌≤◌, ◌<◌, ◌⊎◌, cond, true, false, List, [], ◌∷◌, ◌++◌, length, take, reverse, replicate, get_or, set, Option, Some, None, refl, sym, ap, ◌∙◌, subst, arith, inl, inr, slice_index, length-set}
use mathlib.Core.Path.{fun_ext}
use Rattle.std.proofs.lemmas.Bool.Decides.{nat_tests}
use Rattle.std.proofs.lemmas.List.{get_or-replicate, get_or_past, get_or-set_other, get_or-set_same, length-replicate, reverse-append, take_all, take_more}
use Rattle.std.proofs.lemmas.List.Sums.{sum_by-cons}
use Rattle.std.proofs.lemmas.Bool.{cases_lt}
use Rattle.std.proofs.lemmas.Option.{slice_get_within, get_or_from_slice_get}
use Rattle.std.specs.Prelude.{◌==◌, slice_get, count_by}
use Rattle.cat_program.specs.Checked.{Checked, HasVersion, body_at}
use Rattle.event_arrivals.specs.Spaced.{AreKnown}
use Rattle.event_arrivals.specs.declared.arrival.Arrival.{Arrival}
use Rattle.reference_run.specs.declared.run.Run.{Run}
use Rattle.reference_run.specs.declared.schedule.Item.{Item}
use Rattle.reference_run.specs.Held.{HasAdvanced, HasHandled, IsAt, IsFirst, moment_of}
use Rattle.reference_run.specs.Reference.{AreFor, IsBroken, IsRun, Leads, MayHandle, Moment, Setting, advance_to, done_in, last_start}

pub earlier_more : (items : List Item) (i : ℕ) (item : Item) → slice_get items i ≡ Some item → reverse (take (i + 1) items) ≡ item ∷ reverse (take i items)
earlier_more items i item there =
    ap reverse (take_more items i item (slice_get_within items i item there)) ∙ reverse-append (take i items) (get_or items i item ∷ [])
    ∙ ap (λ x. x ∷ reverse (take i items)) (get_or_from_slice_get items i item item there)

-- the event of an item that may come is known
pub event_known : (s : Setting) → AreKnown s.arrivals → (last : ℕ) (done : ℕ → ℕ) (item : Item) (arrival : Arrival) → AreFor s → MayHandle s last done item arrival → item.event < length s.program.events
event_known s known last done item arrival belong may = omega (arith, known item.event (done item.event) arrival may.next.pending.is_it, belong.arrivals)

pub version_there : (s : Setting) → AreKnown s.arrivals → (last : ℕ) (done : ℕ → ℕ) (item : Item) (arrival : Arrival) → AreFor s → MayHandle s last done item arrival → HasVersion s.program item.event item.version
version_there s known last done item arrival belong may =
    subst (HasVersion s.program item.event) may.version (belong.exist item.event (event_known s known last done item arrival belong may))

module _ (s : Setting) (items : List Item) (i : ℕ) (run : Run) (at : IsAt s items i run) where
  same_counts : slice_index run.done.items ≡ done_in (reverse (take i items))
  same_counts = fun_ext at.counts

  pub may_now : (item : Item) (arrival : Arrival) → MayHandle s run.start (slice_index run.done.items) item arrival → MayHandle s (last_start (reverse (take i items))) (done_in (reverse (take i items))) item arrival
  may_now item arrival may =
      let counted = subst (λ (done : ℕ → ℕ). MayHandle s run.start done item arrival) same_counts may in
      subst (λ last. MayHandle s last (done_in (reverse (take i items))) item arrival) at.start counted

  may_before : (item : Item) (arrival : Arrival) → MayHandle s (last_start (reverse (take i items))) (done_in (reverse (take i items))) item arrival → MayHandle s run.start (slice_index run.done.items) item arrival
  may_before item arrival may =
      let counted = subst (λ (done : ℕ → ℕ). MayHandle s (last_start (reverse (take i items))) done item arrival) (sym same_counts) may in
      subst (λ last. MayHandle s last (slice_index run.done.items) item arrival) (sym at.start) counted

  pub not_allowed : (item : Item) → slice_get items i ≡ Some item → ((arrival : Arrival) → ¬ (MayHandle s run.start (slice_index run.done.items) item arrival)) → IsBroken s items i
  not_allowed item there none = record {
    item = item;
    there = there;
    before = moment_of s.program run;
    run = at.moment;
    stuck = λ after leads. none leads.arrival (may_before item leads.arrival leads.may);
  }

  pub no_steps : (item : Item) → slice_get items i ≡ Some item → advance_to (body_at s.program) item.steps (moment_of s.program run) ≡ None → IsBroken s items i
  no_steps item there none = record {
    item = item;
    there = there;
    before = moment_of s.program run;
    run = at.moment;
    stuck = λ after leads. (let never : None ≡ Some leads.begun = sym none ∙ leads.steps in cc);
  }

one_more : (earlier : List Item) (item : Item) (event : ℕ) → done_in (item ∷ earlier) event ≡ cond (item.event == event) 1 0 + done_in earlier event
one_more earlier item event = sum_by-cons (λ (x : Item). cond (x.event == event) 1 0) item earlier

count_same : (earlier : List Item) (item : Item) (event : ℕ) → item.event ≡ event → done_in (item ∷ earlier) event ≡ done_in earlier event + 1
count_same earlier item event same =
    let holds : (item.event == event) ≡ true = grind (arith, nat_tests) in
    let more : done_in (item ∷ earlier) event ≡ 1 + done_in earlier event = one_more earlier item event ∙ ap (λ b. cond b 1 0 + done_in earlier event) holds in
    omega (arith, more)

count_other : (earlier : List Item) (item : Item) (event : ℕ) → item.event ≢ event → done_in (item ∷ earlier) event ≡ done_in earlier event
count_other earlier item event other =
    let fails : (item.event == event) ≡ false = grind (arith, nat_tests) in
    let more : done_in (item ∷ earlier) event ≡ 0 + done_in earlier event = one_more earlier item event ∙ ap (λ b. cond b 1 0 + done_in earlier event) fails in
    omega (arith, more)

equal_or_not : (a b : ℕ) → (a ≡ b) ⊎ (a ≢ b)
equal_or_not a b = grind arith

counted : (earlier : List Item) (item : Item) (done : List ℕ) → item.event < length done → ((event : ℕ) → slice_index done event ≡ done_in earlier event)
    → (event : ℕ) → slice_index (set done item.event (slice_index done item.event + 1)) event ≡ done_in (item ∷ earlier) event
counted earlier item done within counts event = elim (equal_or_not item.event event) [
  | inl same ↦ (let here = get_or-set_same done item.event (slice_index done item.event + 1) 0 within in
      subst (λ e. slice_index (set done item.event (slice_index done item.event + 1)) e ≡ done_in (item ∷ earlier) e) same
      (here ∙ ap (λ n. n + 1) (counts item.event) ∙ sym (count_same earlier item item.event refl)))
  | inr other ↦ (let ne : event ≢ item.event = λ e. other (sym e) in
      get_or-set_other done item.event event (slice_index done item.event + 1) 0 ne ∙ counts event ∙ sym (count_other earlier item event other))
]

pub taken : (s : Setting) → AreKnown s.arrivals → (items : List Item) (i : ℕ) (run mid new : Run) (item : Item) (arrival : Arrival) → AreFor s → IsAt s items i run → slice_get items i ≡ Some item
    → MayHandle s run.start (slice_index run.done.items) item arrival → HasAdvanced s.program item.steps run mid → HasHandled s.program item arrival mid new → IsAt s items (i + 1) new
taken s known items i run mid new item arrival belong at there may went handled =
    let earlier = reverse (take i items) in
    let known_event = event_known s known run.start (slice_index run.done.items) item arrival belong may in
    let index : slice_index mid.done.items item.event ≡ done_in earlier item.event = ap (λ done. slice_index done item.event) went.beside.done ∙ at.counts item.event in
    let done : new.done.items ≡ set run.done.items item.event (slice_index run.done.items item.event + 1) = handled.done ∙ ap (λ done. set done item.event (slice_index done item.event + 1)) went.beside.done in
    let leads : Leads s earlier item (moment_of s.program run) (moment_of s.program new) = record {
      begun = moment_of s.program mid;
      arrival = arrival;
      steps = went.moment;
      may = may_now s items i run at item arrival may;
      after_is = rw (← index) handled.moment;
    } in
    let more = earlier_more items i item there in
    record {
      fits = handled.fits;
      moment = rw more (moment_of s.program run, at.moment, leads);
      start = rw more handled.start;
      each = ap length done ∙ length-set run.done.items item.event (slice_index run.done.items item.event + 1) ∙ at.each;
      counts = λ event. rw more (ap (λ d. slice_index d event) done ∙ counted earlier item run.done.items (omega (arith, known_event, at.each)) at.counts event);
    }

zero_at : (n event : ℕ) → slice_index (replicate n 0) event ≡ 0
zero_at n event =
    let zeros : List ℕ = replicate n 0 in
    let size : length zeros ≡ n = length-replicate {A = ℕ} n 0 in
    elim (cases_lt event n) [
      | inl within ↦ get_or-replicate n event 0 0 within
      | inr past ↦ get_or_past (replicate n 0) event 0 (omega (arith, past, size))
    ]

pub starts : (s : Setting) (items : List Item) (run : Run) → IsFirst s.program run → IsAt s items 0 run
starts s items run first = record {
  fits = first.fits;
  moment = cc;
  start = first.start;
  each = ap length first.done ∙ length-replicate (length s.program.events) 0;
  counts = λ event. ap (λ done. slice_index done event) first.done ∙ zero_at (length s.program.events) event;
}

-- where all items are taken
pub all_taken : (s : Setting) (items : List Item) (i : ℕ) (run : Run) → length items ≤ i → IsAt s items i run → IsRun s (reverse items) (moment_of s.program run)
all_taken s items i run all at = subst (λ taken. IsRun s (reverse taken) (moment_of s.program run)) (take_all i items all) at.moment
