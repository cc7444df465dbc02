-- The arrivals before a tick are those of the lowest numbers.
use Rattle.std.proofs.Common.{List, ◌≡◌, ℕ, zero, suc, ◌+◌, ◌-◌, ◌*◌, ◌/◌, ◌≤◌, ◌<◌, ◌⊎◌, true, false, Option, Some, None, refl, ap, ◌∙◌, subst, arith, inl, inr, cond}
use Rattle.std.proofs.lemmas.Bool.{cases_lt, cases_eq}
use Rattle.std.proofs.lemmas.Bool.Decides.{nat_tests}
use Rattle.std.proofs.lemmas.List.FromFn.{sum_by-map-range_with_len_more}
use Rattle.std.specs.Prelude.{nat_lt}
use Rattle.std.proofs.Math.Nat.{lt-div-mul-add}
use Rattle.event_arrivals.specs.Arrivals.{Lists, arrival_at}
use Rattle.event_arrivals.specs.Counts.{came_among, came, comes_before, AreCounted}
use Rattle.event_arrivals.specs.Kept.{spacing_at}
use Rattle.event_arrivals.specs.Next.{IsNext}
use Rattle.event_arrivals.specs.Spaced.{AreSound}
use Rattle.event_arrivals.specs.declared.arrival.Arrival.{Arrival}

before_or_not : (t : ℕ) (found : Option Arrival) → (comes_before t found ≡ true) ⊎ (comes_before t found ≡ false)
before_or_not t None = inr refl
before_or_not t (Some arrival) = elim (nat_lt arrival.tick t) as (λ b. nat_lt arrival.tick t ≡ b → (nat_lt arrival.tick t ≡ true) ⊎ (nat_lt arrival.tick t ≡ false)) [ true ↦ (λ e. inl e) | false ↦ (λ e. inr e) ] refl

-- an arrival that is there and comes before the tick
abbrev Comes : Lists → ℕ → ℕ → ℕ → Type 0
Comes lists event t k = (arrival : Arrival) × (arrival_at lists event k ≡ Some arrival) × (arrival.tick < t)

comes : (t : ℕ) (found : Option Arrival) → comes_before t found ≡ true → (arrival : Arrival) × (found ≡ Some arrival) × (arrival.tick < t)
comes t None is = absurd (cc)
comes t (Some arrival) is = (arrival, refl, grind (arith, nat_tests))

is_before : (t : ℕ) (found : Option Arrival) (arrival : Arrival) → found ≡ Some arrival → arrival.tick < t → comes_before t found ≡ true
is_before t found arrival is early = rw is (grind (arith, nat_tests))

-- one arrival more
among_yes : (lists : Lists) (event t n : ℕ) → comes_before t (arrival_at lists event n) ≡ true → came_among lists event t (n + 1) ≡ came_among lists event t n + 1
unfolding came_among
among_yes lists event t n is =
    sum_by-map-range_with_len_more (λ x. cond (comes_before t x) 1 0) (λ k. arrival_at lists event k) 0 n n (omega arith)
    ∙ ap (λ b. came_among lists event t n + cond b 1 0) is

among_no : (lists : Lists) (event t n : ℕ) → comes_before t (arrival_at lists event n) ≡ false → came_among lists event t (n + 1) ≡ came_among lists event t n
unfolding came_among
among_no lists event t n is =
    sum_by-map-range_with_len_more (λ x. cond (comes_before t x) 1 0) (λ k. arrival_at lists event k) 0 n n (omega arith)
    ∙ ap (λ b. came_among lists event t n + cond b 1 0) is ∙ omega arith

among_none : (lists : Lists) (event t : ℕ) → came_among lists event t 0 ≡ 0
unfolding came_among
among_none lists event t = refl

module _ (lists : Lists) (sound : AreSound lists) (event : ℕ) where
  -- those before one that comes before the tick do so, too
  sooner : (t k j : ℕ) → j ≤ k → Comes lists event t k → Comes lists event t j
  sooner t k j le one =
      let first = sound.in_order event j k one.0 le one.1 in
      let early = one.2 in
      (first.0, first.1, omega (arith, first.2))

  all_among : (t n : ℕ) → ((k : ℕ) → k < n → Comes lists event t k) → came_among lists event t n ≡ n
  all_among t zero all = among_none lists event t
  all_among t (suc n) all =
      let last = all n (omega arith) in
      let rest = all_among t n (λ k less. all k (omega arith)) in
      let e : suc n ≡ n + 1 = omega arith in
      rw e (omega (arith, among_yes lists event t n (is_before t (arrival_at lists event n) last.0 last.1 last.2)))

  among_counted : (t n k : ℕ) → k < n → Comes lists event t k → k < came_among lists event t n
  among_counted t zero k less one = absurd (omega arith)
  among_counted t (suc n) k less one =
      let e : suc n ≡ n + 1 = omega arith in
      elim (before_or_not t (arrival_at lists event n)) [
        | inl yes' ↦
            let all = all_among t (n + 1) (λ j below. sooner t n j (omega arith) (comes t (arrival_at lists event n) yes')) in
            rw e (omega arith)
        | inr no' ↦
            elim (cases_eq k n) [
              | inl same ↦
                  let there : comes_before t (arrival_at lists event k) ≡ true = is_before t (arrival_at lists event k) one.0 one.1 one.2 in
                  let there' : comes_before t (arrival_at lists event n) ≡ true = subst (λ (j : ℕ). comes_before t (arrival_at lists event j) ≡ true) same there in
                  absurd (cc)
              | inr other ↦
                  let rest = among_counted t n k (omega arith) one in
                  rw e (omega (arith, among_no lists event t n no'))
            ]
      ]

  among_has_come : (t n k : ℕ) → k < came_among lists event t n → Comes lists event t k
  among_has_come t zero k some = absurd (omega (arith, among_none lists event t))
  among_has_come t (suc n) k some =
      let e : suc n ≡ n + 1 = omega arith in
      let some' : k < came_among lists event t (n + 1) = subst (λ (m : ℕ). k < came_among lists event t m) e some in
      elim (before_or_not t (arrival_at lists event n)) [
        | inl yes' ↦
            let all = all_among t (n + 1) (λ j below. sooner t n j (omega arith) (comes t (arrival_at lists event n) yes')) in
            sooner t n k (omega arith) (comes t (arrival_at lists event n) yes')
        | inr no' ↦ among_has_come t n k (omega (arith, among_no lists event t n no'))
      ]

  pub counted : (k t : ℕ) (arrival : Arrival) → arrival_at lists event k ≡ Some arrival → arrival.tick < t → k < came lists event t
  counted k t arrival is early = among_counted t t k (omega (arith, sound.rare event k arrival is)) (arrival, is, early)

  pub has_come : (k t : ℕ) → k < came lists event t → Comes lists event t k
  has_come k t some = among_has_come t t k some

  pub later : (a b : ℕ) → a ≤ b → came lists event a ≤ came lists event b
  later a b le =
      elim (cases_lt (came lists event b) (came lists event a)) [
        | inl more ↦
            let one = has_come (came lists event b) a more in
            let early = one.2 in
            let counts = counted (came lists event b) b one.0 one.1 (omega arith) in
            absurd (omega arith)
        | inr le' ↦ le'
      ]

  pub spaced : (a n : ℕ) → 0 < spacing_at lists.timings event →
      came lists event (a + n) ≤ came lists event a + (n + spacing_at lists.timings event - 1) / spacing_at lists.timings event
  spaced a n pos =
      elim (cases_lt (came lists event a + (n + spacing_at lists.timings event - 1) / spacing_at lists.timings event) (came lists event (a + n))) [
        | inl more ↦
            let most : ℕ = (n + spacing_at lists.timings event - 1) / spacing_at lists.timings event in
            let last = has_come (came lists event a + most) (a + n) more in
            let first = sound.spaced event (came lists event a) most last.0 last.1 in
            let late : a ≤ first.0.tick =
            elim (cases_lt first.0.tick a) [
              | inl early ↦ let counts = counted (came lists event a) a first.0 first.1 early in absurd (omega arith)
              | inr late ↦ late
            ] in
            let early = last.2 in
            let whole : n + spacing_at lists.timings event - 1 < most * spacing_at lists.timings event + spacing_at lists.timings event = lt-div-mul-add pos in
            absurd (omega (arith, first.2))
        | inr le ↦ le
      ]

pub are_counted : (lists : Lists) → AreSound lists → AreCounted lists
are_counted lists sound =
    record {
      counted = λ event. counted lists sound event;
      has_come = λ event. has_come lists sound event;
      later = λ event. later lists sound event;
      spaced = λ event. spaced lists sound event;
    }

pub lowest : (lists : Lists) (deadlines : List ℕ) (done : ℕ → ℕ) (now event k : ℕ) (arrival : Arrival) → AreSound lists → IsNext lists deadlines done now event k arrival → k ≡ done event
lowest lists deadlines done now event k arrival sound next =
    let to_do = next.pending.to_do in
    let come = next.pending.come in
    let first = sound.in_order event (done event) k arrival to_do next.pending.is_it in
    let soon = first.2 in
    elim (next.first event (done event) first.0 (record { to_do = omega arith; is_it = first.1; come = omega arith })) [
      | inl earlier ↦ absurd (omega arith)
      | inr same ↦ elim same.1 [ inl below ↦ absurd (omega arith) | inr few ↦ omega (arith, few.1) ]
    ]
