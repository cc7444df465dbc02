-- The arrivals of an event come in the order of their numbers.
use Rattle.std.proofs.Common.{◌≡◌, ℕ, ◌+◌, ◌-◌, ◌*◌, ◌≤◌, length, Some, None, subst, arith, inl, inr}
use Rattle.std.proofs.lemmas.Bool.{cases_lt}
use Rattle.std.proofs.lemmas.Option.{slice_get_past}
use Rattle.std.proofs.Math.Nat.{le-mul_of_pos_right}
use Rattle.event_arrivals.specs.Arrivals.{Lists, arrival_at}
use Rattle.event_arrivals.specs.Kept.{spacing_at}
use Rattle.event_arrivals.specs.Spaced.{AreInOrder, AreKnown, AreRare, AreSpaced, HaveSpacings}
use Rattle.event_arrivals.specs.declared.arrival.Arrival.{Arrival}

pub known : (lists : Lists) → AreKnown lists
known lists event k arrival is = elim (cases_lt event (length lists.timings)) [
  | inl within ↦ within
  | inr past ↦ (let none = slice_get_past lists.timings event past in let never : None ≡ Some arrival = rw none at is in cc)
]

-- an earlier arrival of the event
earlier : (lists : Lists) → AreSpaced lists → (event j k : ℕ) (later : Arrival) → j ≤ k → arrival_at lists event k ≡ Some later
    → (sooner : Arrival) × (arrival_at lists event j ≡ Some sooner) × (sooner.tick + (k - j) * spacing_at lists.timings event ≤ later.tick)
earlier lists spaced event j k later order is =
    let place : k ≡ j + (k - j) = omega arith in
    let moved : ℕ → Type 0 = λ i. arrival_at lists event i ≡ Some later in
    spaced event j (k - j) later (subst moved place is)

pub in_order : (lists : Lists) → AreSpaced lists → AreInOrder lists
in_order lists spaced event j k later order is =
    let found = earlier lists spaced event j k later order is in
    (found.0, found.1, omega (arith, found.2))

pub rare : (lists : Lists) → HaveSpacings lists.timings → AreSpaced lists → AreRare lists
rare lists apart spaced event k arrival is =
    let found = earlier lists spaced event 0 k arrival (omega arith) is in
    let far : k - 0 ≤ (k - 0) * spacing_at lists.timings event = le-mul_of_pos_right (k - 0) (apart event (known lists event k arrival is)) in
    omega (arith, found.2, far)
