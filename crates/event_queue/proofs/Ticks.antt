-- The first tick after another at which an arrival comes.
use Rattle.std.proofs.Common.{◌≡◌, ℕ, zero, ◌+◌, ◌-◌, ◌*◌, ◌≤◌, ◌<◌, ◌⊎◌, nat_le, true, false, List, length, Option, Some, None, refl, sym, ap, ◌∙◌, subst, arith, inl, inr, slice_index}
use Rattle.std.proofs.lemmas.Bool.{cases_lt}
use Rattle.std.proofs.lemmas.Bool.Decides.{nat_tests}
use Rattle.std.specs.Prelude.{IfSome, IfNone}
use Rattle.cn_base.specs.declared.TheConstants.{MOST_TICKS}
use Rattle.harvest_trace.specs.Timeline.{life_of}
use Rattle.event_arrivals.specs.Arrivals.{Lists, arrival_at}
use Rattle.event_arrivals.specs.Next.{IsNextTick, IsToCome}
use Rattle.event_arrivals.specs.Spaced.{AreInOrder, AreKnown, AreSound}
use Rattle.event_arrivals.specs.declared.arrival.Arrival.{Arrival}
use Rattle.event_queue.specs.Queue.{IsFirstTick, IsTickBelow, IsTickOf, has_come_by, is_by}

one_tick : (found : Option Arrival) (a b : Arrival) → found ≡ Some a → found ≡ Some b → a.tick ≡ b.tick
one_tick found a b ea eb = cc

pub not_before : (lists : Lists) → AreInOrder lists → (event j k : ℕ) (sooner later : Arrival) → j ≤ k → arrival_at lists event j ≡ Some sooner → arrival_at lists event k ≡ Some later → sooner.tick ≤ later.tick
not_before lists ordered event j k sooner later order sooner_is later_is =
    let found = ordered event j k later order later_is in
    omega (arith, one_tick (arrival_at lists event j) sooner found.0 sooner_is found.1, found.2)

-- the arrival of a high index comes later
pub high_later : (lists : Lists) → AreSound lists → life_of lists.trace ≤ MOST_TICKS → (now event high : ℕ) → (now + 1 ≤ high) ⊎ (4294967295 ≤ high) → (arrival : Arrival) → arrival_at lists event high ≡ Some arrival → now < arrival.tick
high_later lists sound bounded now event high far arrival is =
    let index = sound.rare event high arrival is in
    let within = sound.within event high arrival is in
    elim far [
      | inl more ↦ omega (arith, index, more)
      | inr last ↦ absurd (let never : ⊥ = omega (arith, index, last, within, bounded) in never)
    ]

by_true : (now : ℕ) (found : Option Arrival) → is_by now found ≡ true → (arrival : Arrival) × (found ≡ Some arrival) × (arrival.tick ≤ now)
by_true now None is = cc
by_true now (Some arrival) is = (arrival, refl, grind (arith, nat_tests))

by_false : (now : ℕ) (found : Option Arrival) (arrival : Arrival) → is_by now found ≡ false → found ≡ Some arrival → now < arrival.tick
by_false now None arrival is there = cc
by_false now (Some first) arrival is there =
    let same : first.tick ≡ arrival.tick = cc in
    let late : now < first.tick = grind (arith, nat_tests) in
    omega (arith, same, late)

-- where the arrival in the middle has come, all up to it have
pub come_to : (lists : Lists) → AreInOrder lists → (now event middle : ℕ) → has_come_by lists now event middle ≡ true → (k : ℕ) (arrival : Arrival) → k < middle + 1 → arrival_at lists event k ≡ Some arrival → arrival.tick ≤ now
come_to lists ordered now event middle come k arrival below is =
    let found = by_true now (arrival_at lists event middle) come in
    omega (arith, not_before lists ordered event k middle arrival found.0 (omega arith) is found.1, found.2)

pub later_at : (lists : Lists) (now event middle : ℕ) → has_come_by lists now event middle ≡ false → (arrival : Arrival) → arrival_at lists event middle ≡ Some arrival → now < arrival.tick
later_at lists now event middle late arrival is = by_false now (arrival_at lists event middle) arrival late is

-- what is known where the search ends
abbrev pub Come : Lists → ℕ → ℕ → ℕ → ℕ → Type 0
Come lists now event from low = (k : ℕ) (arrival : Arrival) → from ≤ k → k < low → arrival_at lists event k ≡ Some arrival → arrival.tick ≤ now

pub tick_none : (lists : Lists) → AreInOrder lists → (now event from low : ℕ) → Come lists now event from low → arrival_at lists event low ≡ None → IsTickOf lists now event from None
tick_none lists ordered now event from low come none = λ k arrival order is. elim (cases_lt k low) [
  | inl below ↦ come k arrival order below is
  | inr above ↦ (let found = ordered event low k arrival above is in let never : None ≡ Some found.0 = sym none ∙ found.1 in cc)
]

pub tick_some : (lists : Lists) → AreInOrder lists → (now event from low : ℕ) (arrival : Arrival) → from ≤ low → Come lists now event from low → arrival_at lists event low ≡ Some arrival → now < arrival.tick → IsTickOf lists now event from (Some arrival.tick)
tick_some lists ordered now event from low arrival order come is later = (
  (low, arrival, order, is, refl, later),
  λ k other after there late. elim (cases_lt k low) [
    | inl below ↦ (let early = come k other after below there in absurd (let never : ⊥ = omega (arith, early, late) in never))
    | inr above ↦ not_before lists ordered event low k arrival other above is there
  ],
)

-- ---- of all events

module _ (lists : Lists) (done : ℕ → ℕ) (now event : ℕ) where
  below_or_here : (e : ℕ) → e < event + 1 → (e < event) ⊎ (e ≡ event)
  below_or_here e below = elim (cases_lt e event) [ inl less ↦ inl less | inr more ↦ inr (omega arith) ]

  none_here : (e k : ℕ) (arrival : Arrival) → e ≡ event → IsTickOf lists now event (done event) None → IsToCome lists done now e k arrival → ⊥
  none_here e k arrival same none coming =
      let late = none k arrival (rw same at coming.to_do) (rw same at coming.is_it) in
      omega (arith, late, coming.later)

  comes_here : (tick : ℕ) → IsTickOf lists now event (done event) (Some tick) → (e k : ℕ) × (arrival : Arrival) × IsToCome lists done now e k arrival × (arrival.tick ≡ tick)
  comes_here tick found =
      let there = found.0 in
      (event, there.0, there.1, record { to_do = there.2; is_it = there.3; later = rw there.4 there.5 }, there.4)

  first_here : (tick : ℕ) → IsTickOf lists now event (done event) (Some tick) → (e k : ℕ) (arrival : Arrival) → e ≡ event → IsToCome lists done now e k arrival → tick ≤ arrival.tick
  first_here tick found e k arrival same coming = found.1 k arrival (rw same at coming.to_do) (rw same at coming.is_it) coming.later

  pub keep_tick : (best : Option ℕ) → IsTickOf lists now event (done event) None → IsFirstTick lists done now event best → IsFirstTick lists done now (event + 1) best
  keep_tick None none before = λ e k arrival below coming. elim (below_or_here e below) [
    | inl less ↦ before e k arrival less coming
    | inr same ↦ none_here e k arrival same none coming
  ]
  keep_tick (Some best) none before = record {
    comes = before.comes;
    first = λ e k arrival below coming. elim (below_or_here e below) [
      | inl less ↦ before.first e k arrival less coming
      | inr same ↦ absurd (none_here e k arrival same none coming)
    ];
  }

  pub take_tick : (tick : ℕ) → IsTickOf lists now event (done event) (Some tick) → IsFirstTick lists done now event None → IsTickBelow lists done now (event + 1) tick
  take_tick tick found before = record {
    comes = comes_here tick found;
    first = λ e k arrival below coming. elim (below_or_here e below) [
      | inl less ↦ absurd (before e k arrival less coming)
      | inr same ↦ first_here tick found e k arrival same coming
    ];
  }

  pub take_sooner : (tick best : ℕ) → IsTickOf lists now event (done event) (Some tick) → IsTickBelow lists done now event best → tick < best → IsTickBelow lists done now (event + 1) tick
  take_sooner tick best found before sooner = record {
    comes = comes_here tick found;
    first = λ e k arrival below coming. elim (below_or_here e below) [
      | inl less ↦ omega (arith, sooner, before.first e k arrival less coming)
      | inr same ↦ first_here tick found e k arrival same coming
    ];
  }

  pub keep_sooner : (tick best : ℕ) → IsTickOf lists now event (done event) (Some tick) → IsTickBelow lists done now event best → best ≤ tick → IsTickBelow lists done now (event + 1) best
  keep_sooner tick best found before sooner = record {
    comes = before.comes;
    first = λ e k arrival below coming. elim (below_or_here e below) [
      | inl less ↦ before.first e k arrival less coming
      | inr same ↦ omega (arith, sooner, first_here tick found e k arrival same coming)
    ];
  }

pub all_ticks : (lists : Lists) → AreKnown lists → (done : ℕ → ℕ) (now bound : ℕ) (best : Option ℕ) → length lists.timings ≤ bound → IsFirstTick lists done now bound best → IfSome best (IsNextTick lists done now)
all_ticks lists known done now bound None all before = tt
all_ticks lists known done now bound (Some tick) all before = record {
  comes = before.comes;
  first = λ e k arrival coming. (let inside = known e k arrival coming.is_it in before.first e k arrival (omega (arith, inside, all)) coming);
}

pub no_ticks : (lists : Lists) → AreKnown lists → (done : ℕ → ℕ) (now bound : ℕ) (best : Option ℕ) → length lists.timings ≤ bound → IsFirstTick lists done now bound best
    → IfNone best ((event k : ℕ) (arrival : Arrival) → ¬ (IsToCome lists done now event k arrival))
no_ticks lists known done now bound (Some tick) all before = tt
no_ticks lists known done now bound None all before = λ e k arrival coming. (let inside = known e k arrival coming.is_it in before e k arrival (omega (arith, inside, all)) coming)
