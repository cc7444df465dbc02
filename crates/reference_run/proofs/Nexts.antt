-- An event's arrival at its done count is the next one where no other event's comes before it.
use Rattle.std.proofs.Common.{◌≡◌, ℕ, ◌+◌, ◌≤◌, ◌<◌, ◌⊎◌, List, length, Option, Some, None, refl, sym, ap, ◌∙◌, arith, inl, inr, slice_index}
use Rattle.std.proofs.lemmas.Bool.{cases_lt}
use Rattle.event_arrivals.specs.Arrivals.{Lists, arrival_at}
use Rattle.event_arrivals.specs.Next.{ComesFirst, IsNext}
use Rattle.event_arrivals.specs.Spaced.{AreSound}
use Rattle.event_arrivals.specs.declared.arrival.Arrival.{Arrival}
use Rattle.reference_run.specs.Held.{IsNoSooner}

comes_first : (due due' event event' k k' : ℕ) → (due < due') ⊎ ((due ≡ due') × (event ≤ event')) → (event ≡ event' → k ≤ k') → ComesFirst due event k due' event' k'
comes_first due due' event event' k k' (inl less) own = inl less
comes_first due due' event event' k k' (inr equal) own = elim (cases_lt event event') [
  | inl before ↦ inr (equal.0, inl before)
  | inr after ↦ (let same : event ≡ event' = omega (arith, after, equal.1) in inr (equal.0, inr (same, own same)))
]

later_too : (due own later event event' : ℕ) → own ≤ later → (due < own) ⊎ ((due ≡ own) × (event ≤ event')) → (due < later) ⊎ ((due ≡ later) × (event ≤ event'))
later_too due own later event event' order (inl less) = inl (omega (arith, order, less))
later_too due own later event event' order (inr equal) = elim (cases_lt due later) [
  | inl less ↦ inl less
  | inr more ↦ inr (omega (arith, order, equal.0, more), equal.1)
]

pub next_is : (lists : Lists) (deadlines : List ℕ) (done : ℕ → ℕ) (now event due : ℕ) (arrival : Arrival) → AreSound lists → arrival_at lists event (done event) ≡ Some arrival → arrival.tick ≤ now
    → due ≡ arrival.tick + slice_index deadlines event → ((other : ℕ) → other < length lists.timings → IsNoSooner lists deadlines now other (done other) due event)
    → IsNext lists deadlines done now event (done event) arrival
next_is lists deadlines done now event due arrival sound is come due_is none = record {
  pending = record { to_do = omega arith; is_it = is; come = come };
  first = λ event' k' other pending.
      let head = sound.in_order event' (done event') k' other pending.to_do pending.is_it in
      let order : head.0.tick ≤ other.tick = omega (arith, head.2) in
      let before = none event' (sound.known event' k' other pending.is_it) head.0 head.1 (omega (arith, order, pending.come)) in
      let later = later_too due (head.0.tick + slice_index deadlines event') (other.tick + slice_index deadlines event') event event' (omega (arith, order)) before in
      let own : event ≡ event' → done event ≤ k' = λ same. rw same pending.to_do in
      rw (← due_is) (comes_first due (other.tick + slice_index deadlines event') event event' (done event) k' later own);
}
