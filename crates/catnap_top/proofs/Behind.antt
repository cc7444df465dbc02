-- An arrival that comes after a life has begun has no entry among those that were there before.
use Rattle.std.proofs.Common.{◌≡◌, ℕ, zero, suc, ◌+◌, ◌<◌, ◌≤◌, List, [], ◌∷◌, ◌++◌, length, reverse, Option, Some, refl, sym, ap, ◌∙◌, subst, arith, inl, inr}
use Rattle.std.specs.Prelude.{slice_get}
use Rattle.std.proofs.lemmas.Bool.{cases_lt}
use Rattle.std.proofs.lemmas.List.{reverse-append}
use Rattle.cat_program.specs.declared.outs.LogEntry.{LogEntry}
use Rattle.cat_program.specs.declared.outs.LogEntry.TheVariants.{Out, Ran}
use Rattle.event_arrivals.specs.Arrivals.{arrival_at}
use Rattle.event_arrivals.specs.Counts.{AreCounted, came}
use Rattle.event_arrivals.specs.Spaced.{AreSound}
use Rattle.event_arrivals.specs.declared.arrival.Arrival.{Arrival}
use Rattle.reference_run.specs.Reference as fixed
use Rattle.reference_run.specs.Reference.{Moment}
use Rattle.reference_run.specs.declared.schedule.Item.{Item}
use Rattle.logged_runs.specs.Laws.{OwnRunsHandleArrivals, counts_of, last_start_of}
use Rattle.logged_runs.specs.Own.{IsOwn, IsPrefixOf, items_in}
use Rattle.logged_runs.specs.Reference.{Setting}
use Rattle.lawful_timeline.specs.Points.{BeganBefore}

-- ---- the last start

abbrev Below : ℕ → List Item → Type 0
Below tick [] = Unit {0}
Below tick (x ∷ xs) = (x.start < tick) × Below tick xs

below_items : (tick : ℕ) (entries : List LogEntry) → BeganBefore tick entries → Below tick (items_in entries)
below_items tick [] h = tt
below_items tick (Out channel value ∷ es) h = below_items tick es (λ i event version steps start index at. h (suc i) event version steps start index at)
below_items tick (Ran e v n t k ∷ es) h = (h 0 e v n t k refl, below_items tick es (λ i event version steps start index at. h (suc i) event version steps start index at))

below_both : (tick : ℕ) (xs ys : List Item) → Below tick xs → Below tick ys → Below tick (xs ++ ys)
below_both tick [] ys h k = k
below_both tick (x ∷ xs) ys h k = (h.0, below_both tick xs ys h.1 k)

below_reverse : (tick : ℕ) (xs : List Item) → Below tick xs → Below tick (reverse xs)
below_reverse tick [] h = tt
below_reverse tick (x ∷ xs) h =
    subst (λ (ys : List Item). Below tick ys) (sym (reverse-append (x ∷ []) xs)) (below_both tick (reverse xs) (x ∷ []) (below_reverse tick xs h.1) (h.0, tt))

last_below : (tick : ℕ) (xs : List Item) → 0 < tick → Below tick xs → fixed.last_start xs < tick
last_below tick [] some h = some
last_below tick (x ∷ xs) some h = h.0

-- ---- the entries

entry_kept : (xs rest : List LogEntry) (i : ℕ) → i < length xs → slice_get (xs ++ rest) i ≡ slice_get xs i
entry_kept [] rest i lt = absurd (omega arith)
entry_kept (x ∷ xs) rest zero lt = refl
entry_kept (x ∷ xs) rest (suc i) lt = entry_kept xs rest i (omega arith)

arrival_same : (o : Option Arrival) (a b : Arrival) → o ≡ Some a → o ≡ Some b → a ≡ b
arrival_same o a b e f = let both = sym e ∙ f in (cc)

module _ (s : Setting) (sound : AreSound s.arrivals) (handled : OwnRunsHandleArrivals s) (counted : AreCounted s.arrivals)
    (m : Moment) (own : IsOwn s m) (tick : ℕ) (began : BeganBefore tick m.entries) where
  came_before : (event k place v n t : ℕ) (arrival : Arrival) → slice_get m.entries place ≡ Some (Ran event v n t k) → arrival_at s.arrivals event k ≡ Some arrival → arrival.tick < tick
  came_before event k place v n t arrival is comes =
      let start : t < tick = began place event v n t k is in
      let some : 0 < tick = omega (arith, start) in
      let last : last_start_of m.entries < tick =
      last_below tick (reverse (items_in m.entries)) some (below_reverse tick (items_in m.entries) (below_items tick m.entries began)) in
      let few : k < counts_of m.entries event = handled.counted m place event v n t k own is in
      let most : counts_of m.entries event ≤ came s.arrivals event (last_start_of m.entries + 1) = handled.come m event sound own in
      let later : came s.arrivals event (last_start_of m.entries + 1) ≤ came s.arrivals event tick = counted.later event (last_start_of m.entries + 1) tick (omega (arith, last)) in
      let there = counted.has_come event k tick (omega (arith, few, most, later)) in
      let same : there.0 ≡ arrival = arrival_same (arrival_at s.arrivals event k) there.0 arrival there.1 comes in
      subst (λ (a : Arrival). a.tick < tick) same there.2

  pub not_before : (final : Moment) (event k place v n t : ℕ) (arrival : Arrival) → IsPrefixOf m.entries final.entries → slice_get final.entries place ≡ Some (Ran event v n t k)
      → arrival_at s.arrivals event k ≡ Some arrival → tick ≤ arrival.tick → length m.entries ≤ place
  not_before final event k place v n t arrival prefix is comes later =
      elim (cases_lt place (length m.entries)) [
        | inl less ↦
            let kept : slice_get m.entries place ≡ Some (Ran event v n t k) =
            sym (entry_kept m.entries prefix.0 place less) ∙ sym (ap (λ (es : List LogEntry). slice_get es place) prefix.1) ∙ is in
            let early : arrival.tick < tick = came_before event k place v n t arrival kept comes in
            absurd (omega (arith, early, later))
        | inr le ↦ le
      ]
