-- The events that a program declares, one after the other.
use Rattle.std.proofs.Common.{◌≡◌, ℕ, ◌+◌, ◌≤◌, ◌<◌, suc, List, [], ◌∷◌, ◌++◌, drop, length, Some, None, true, false, refl, sym, ap, ◌∙◌, append_assoc, arith}
use Rattle.std.proofs.lemmas.List.{drop_all, drop_more}
use Rattle.std.proofs.lemmas.Option.{get_or_from_slice_get}
use Rattle.std.specs.Prelude.{slice_get, if◌then◌else◌}
use Rattle.cat_program.specs.declared.headers.Event.{Event}
use Rattle.cat_program.specs.declared.headers.Timing.{Timing}
use Rattle.cat_program.specs.declared.headers.Timing.TheVariants.{Spacing}
use Rattle.event_arrivals.specs.Arrivals.{each_own, own_rows, timings_of}
use Rattle.event_arrivals.specs.Rows.{is_reactive_named, reactive_named}
use Rattle.event_arrivals.specs.declared.arrival.Arrival.{Arrival}
use Rattle.event_arrivals.specs.declared.row.ArrivalRow.{ArrivalRow}

drop-header : (headers : List Event) (i : ℕ) (e : Event) → i < length headers → slice_get headers i ≡ Some e → drop i headers ≡ e ∷ drop (i + 1) headers
drop-header headers i e within is = drop_more headers i e within ∙ ap (λ x. x ∷ drop (i + 1) headers) (get_or_from_slice_get headers i e e is)

pub named-here : (name : List ℕ) (headers : List Event) (i : ℕ) (e : Event) → i < length headers → slice_get headers i ≡ Some e → is_reactive_named name e ≡ true
    → reactive_named name i (drop i headers) ≡ Some i
unfolding reactive_named
named-here name headers i e within is holds = rw (drop-header headers i e within is, holds) refl

pub named-later : (name : List ℕ) (headers : List Event) (i : ℕ) (e : Event) → i < length headers → slice_get headers i ≡ Some e → is_reactive_named name e ≡ false
    → reactive_named name i (drop i headers) ≡ reactive_named name (i + 1) (drop (i + 1) headers)
unfolding reactive_named
named-later name headers i e within is fails = rw (drop-header headers i e within is, fails) refl

pub named-none : (name : List ℕ) (headers : List Event) (i : ℕ) → length headers ≤ i → reactive_named name i (drop i headers) ≡ None
unfolding reactive_named
named-none name headers i past = rw (drop_all i headers past) refl

-- a number that is found is that of an event
pub named_below : (name : List ℕ) (number : ℕ) (headers : List Event) (event : ℕ) → reactive_named name number headers ≡ Some event → event < number + length headers
unfolding reactive_named
named_below name number [] event is = absurd (cc)
named_below name number (e ∷ es) event is =
    elim (is_reactive_named name e) as (λ b. (if b then Some number else reactive_named name (number + 1) es) ≡ Some event → event < number + length (e ∷ es)) [
      | true ↦ (λ here. let same : number ≡ event = cc in omega arith)
      | false ↦ (λ later. omega (arith, named_below name (number + 1) es event later))
    ] is

pub timings-more : (headers : List Event) (found : List Timing) (i : ℕ) (e : Event) → i < length headers → slice_get headers i ≡ Some e
    → found ++ timings_of (drop i headers) ≡ (found ++ e.timing ∷ []) ++ timings_of (drop (i + 1) headers)
timings-more headers found i e within is =
    ap (λ es. found ++ timings_of es) (drop-header headers i e within is) ∙ sym (append_assoc found (e.timing ∷ []) (timings_of (drop (i + 1) headers)))

pub timings-end : (headers : List Event) (found : List Timing) (i : ℕ) → length headers ≤ i → found ++ timings_of (drop i headers) ≡ found ++ []
timings-end headers found i past = ap (λ es. found ++ timings_of es) (drop_all i headers past)

pub each_own-more : (timings : List Timing) (rows : List ArrivalRow) (found : List (List Arrival)) (i : ℕ) → i < length timings
    → found ++ each_own i (drop i timings) rows ≡ (found ++ own_rows i rows ∷ []) ++ each_own (i + 1) (drop (i + 1) timings) rows
unfolding each_own
each_own-more timings rows found i within =
    ap (λ ts. found ++ each_own i ts rows) (drop_more timings i (Spacing 0) within) ∙ sym (append_assoc found (own_rows i rows ∷ []) (each_own (i + 1) (drop (i + 1) timings) rows))

pub each_own-end : (timings : List Timing) (rows : List ArrivalRow) (found : List (List Arrival)) (i : ℕ) → length timings ≤ i → found ++ each_own i (drop i timings) rows ≡ found ++ []
unfolding each_own
each_own-end timings rows found i past = ap (λ ts. found ++ each_own i ts rows) (drop_all i timings past)

pub length-each_own : (event : ℕ) (timings : List Timing) (rows : List ArrivalRow) → length (each_own event timings rows) ≡ length timings
unfolding each_own
length-each_own event [] rows = refl
length-each_own event (t ∷ ts) rows = ap suc (length-each_own (event + 1) ts rows)
