-- One arrival comes next.
use Rattle.std.proofs.Common.{◌≡◌, ℕ, List, Option, Some, sym, subst, arith, inl, inr}
use Rattle.event_arrivals.specs.Arrivals.{Lists, arrival_at}
use Rattle.event_arrivals.specs.Next.{AreOne, ComesFirst, IsPending}
use Rattle.event_arrivals.specs.declared.arrival.Arrival.{Arrival}

-- of two that each come before the other, event and index are one
one_order : (due event k due' event' k' : ℕ) → ComesFirst due event k due' event' k' → ComesFirst due' event' k' due event k → (event ≡ event') × (k ≡ k')
one_order due event k due' event' k' (inl less) (inl more) = absurd (omega (arith, less, more))
one_order due event k due' event' k' (inl less) (inr equal) = absurd (omega (arith, less, equal.0))
one_order due event k due' event' k' (inr equal) (inl more) = absurd (omega (arith, more, equal.0))
one_order due event k due' event' k' (inr equal) (inr equal') = elim equal.1 [
  | inl below ↦ elim equal'.1 [ inl above ↦ absurd (omega (arith, below, above)) | inr same ↦ absurd (omega (arith, below, same.0)) ]
  | inr same ↦ elim equal'.1 [ inl above ↦ absurd (omega (arith, same.0, above)) | inr same' ↦ (same.0, omega (arith, same.1, same'.1)) ]
]

one_arrival : (found : Option Arrival) (a b : Arrival) → found ≡ Some a → found ≡ Some b → a ≡ b
one_arrival found a b ea eb = cc

module _ (lists : Lists) (deadlines : List ℕ) (now : ℕ) where
  as_counted : (done done' : ℕ → ℕ) (event k : ℕ) (arrival : Arrival) → ((e : ℕ) → done e ≡ done' e) → IsPending lists done now event k arrival → IsPending lists done' now event k arrival
  as_counted done done' event k arrival agree pending = record { to_do = omega (arith, agree event, pending.to_do); is_it = pending.is_it; come = pending.come }

  pub one_next : AreOne lists deadlines now
  one_next done done' event k event' k' arrival arrival' agree next next' =
      let one = one_order _ event k _ event' k'
      (next.first event' k' arrival' (as_counted done' done event' k' arrival' (λ e. sym (agree e)) next'.pending))
      (next'.first event k arrival (as_counted done done' event k arrival agree next.pending)) in
      let there : arrival_at lists event' k' ≡ Some arrival =
      subst (λ (i : ℕ). arrival_at lists event' i ≡ Some arrival) one.1 (subst (λ (e : ℕ). arrival_at lists e k ≡ Some arrival) one.0 next.pending.is_it) in
      (one.0, one.1, one_arrival (arrival_at lists event' k') arrival arrival' there next'.pending.is_it)
