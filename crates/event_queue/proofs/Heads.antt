-- An event's arrival at its done count stands for all of them that wait.
use Rattle.std.proofs.Common.{◌≡◌, ℕ, ◌+◌, ◌-◌, ◌*◌, ◌≤◌, ◌<◌, ◌⊎◌, List, length, Option, Some, None, refl, sym, ap, ◌∙◌, subst, arith, inl, inr, slice_index}
use Rattle.std.proofs.lemmas.Bool.{cases_lt}
use Rattle.std.proofs.lemmas.Option.{slice_get_past}
use Rattle.std.specs.Prelude.{slice_get, IfSome, IfNone}
use Rattle.event_arrivals.specs.Arrivals.{Lists, arrival_at}
use Rattle.event_arrivals.specs.Kept.{spacing_at}
use Rattle.event_arrivals.specs.Next.{ComesFirst, IsNext, IsNextTick, IsPending, IsToCome}
use Rattle.event_arrivals.specs.Spaced.{AreInOrder, AreSound}
use Rattle.event_arrivals.specs.declared.arrival.Arrival.{Arrival}
use Rattle.event_queue.specs.Queue.{IsDue, IsDueBelow, IsFirst, IsFirstTick, IsHead, IsHeadOf, IsInBounds, IsQueue, IsTickBelow, IsTickOf, QueueValue, arrival_of}
use Rattle.event_queue.specs.declared.queue.Due.{Due}
use Rattle.event_queue.proofs.Ticks.{not_before}

-- ---- the event's arrival of an index

pub none_from : (lists : Lists) → AreInOrder lists → (now event index : ℕ) → arrival_at lists event index ≡ None → (k : ℕ) (other : Arrival) → index ≤ k → arrival_at lists event k ≡ Some other → now < other.tick
none_from lists ordered now event index none k other order is =
    let found = ordered event index k other order is in
    let never : None ≡ Some found.0 = sym none ∙ found.1 in
    cc

pub late_from : (lists : Lists) → AreInOrder lists → (now event index : ℕ) (arrival : Arrival) → arrival_at lists event index ≡ Some arrival → now < arrival.tick → (k : ℕ) (other : Arrival) → index ≤ k → arrival_at lists event k ≡ Some other → now < other.tick
late_from lists ordered now event index arrival there late k other order is = omega (arith, late, not_before lists ordered event index k arrival other order there is)

-- ---- which one is next

later_first : (due tick event event' k k' deadline : ℕ) → due < deadline → ComesFirst deadline event k tick event' k' → due < tick
later_first due tick event event' k k' deadline sooner first = elim first [
  | inl less ↦ omega (arith, sooner, less)
  | inr equal ↦ omega (arith, sooner, equal.0)
]

module _ (q : QueueValue) (done : ℕ → ℕ) (now event : ℕ) where
  head_pending : (due : Due) → IsHead q now event (done event) due → IsPending q.arrivals done now due.event due.index (arrival_of due)
  head_pending due head = rw (head.event_is, head.index_is) (record { to_do = omega arith; is_it = head.is_it; come = head.come })

  head_deadline : (due : Due) → IsHead q now event (done event) due → due.deadline ≡ due.arrived + slice_index q.deadlines due.event
  head_deadline due head = rw head.event_is head.deadline

  head_first : (due : Due) → IsHead q now event (done event) due → (e k : ℕ) (other : Arrival) → e ≡ event → IsPending q.arrivals done now e k other
      → ComesFirst due.deadline due.event due.index (other.tick + slice_index q.deadlines e) e k
  head_first due head e k other same pending =
      let sooner = head.first k other (rw same at pending.to_do) (rw same at pending.is_it) in
      let order : due.deadline ≤ other.tick + slice_index q.deadlines e = rw same (omega (arith, sooner, head.deadline)) in
      let index : due.index ≤ k = rw (head.index_is, ← same) pending.to_do in
      let event_is : due.event ≡ e = head.event_is ∙ sym same in
      elim (cases_lt due.deadline (other.tick + slice_index q.deadlines e)) [
        | inl less ↦ inl less
        | inr more ↦ inr (omega arith, inr (event_is, index))
      ]

  below_or_here : (e : ℕ) → e < event + 1 → (e < event) ⊎ (e ≡ event)
  below_or_here e below = elim (cases_lt e event) [ inl less ↦ inl less | inr more ↦ inr (omega arith) ]

  -- nothing of the event waits
  pub keep_first : (best : Option Due) → IsHeadOf q now event (done event) None → IsFirst q done now event best → IsFirst q done now (event + 1) best
  keep_first None none before = λ e k other below pending. elim (below_or_here e below) [
    | inl less ↦ before e k other less pending
    | inr same ↦ (let late = none k other (rw same at pending.to_do) (rw same at pending.is_it) in let never : ⊥ = omega (arith, late, pending.come) in never)
  ]
  keep_first (Some best) none before = record {
    below = omega (arith, before.below);
    pending = before.pending;
    deadline = before.deadline;
    first = λ e k other below pending. elim (below_or_here e below) [
      | inl less ↦ before.first e k other less pending
      | inr same ↦ (let late = none k other (rw same at pending.to_do) (rw same at pending.is_it) in let never : ⊥ = omega (arith, late, pending.come) in absurd never)
    ];
  }

  -- nothing of the events before waits
  pub take_first : (due : Due) → IsHead q now event (done event) due → IsFirst q done now event None → IsDueBelow q done now (event + 1) due
  take_first due head before = record {
    below = rw head.event_is (omega arith);
    pending = head_pending due head;
    deadline = head_deadline due head;
    first = λ e k other below pending. elim (below_or_here e below) [
      | inl less ↦ absurd (before e k other less pending)
      | inr same ↦ head_first due head e k other same pending
    ];
  }

  -- the deadline of the one before is later
  pub take_sooner : (due best : Due) → IsHead q now event (done event) due → IsDueBelow q done now event best → due.deadline < best.deadline → IsDueBelow q done now (event + 1) due
  take_sooner due best head before sooner = record {
    below = rw head.event_is (omega arith);
    pending = head_pending due head;
    deadline = head_deadline due head;
    first = λ e k other below pending. elim (below_or_here e below) [
      | inl less ↦ inl (later_first due.deadline (other.tick + slice_index q.deadlines e) best.event e best.index k best.deadline sooner (before.first e k other less pending))
      | inr same ↦ head_first due head e k other same pending
    ];
  }

  -- the deadline of the one before is no later
  pub keep_sooner : (due best : Due) → IsHead q now event (done event) due → IsDueBelow q done now event best → best.deadline ≤ due.deadline → IsDueBelow q done now (event + 1) best
  keep_sooner due best head before sooner = record {
    below = omega (arith, before.below);
    pending = before.pending;
    deadline = before.deadline;
    first = λ e k other below pending. elim (below_or_here e below) [
      | inl less ↦ before.first e k other less pending
      | inr same ↦ (
          let own : due.arrived ≤ other.tick = head.first k other (rw same at pending.to_do) (rw same at pending.is_it) in
          let order : best.deadline ≤ other.tick + slice_index q.deadlines e = rw same (omega (arith, own, head.deadline, sooner)) in
          let event_less : best.event < e = omega (arith, before.below, same) in
          elim (cases_lt best.deadline (other.tick + slice_index q.deadlines e)) [
            | inl less ↦ inl less
            | inr more ↦ inr (omega arith, inl event_less)
          ])
    ];
  }

-- all events
module _ (q : QueueValue) (done : ℕ → ℕ) (now bound : ℕ) (sound : AreSound q.arrivals) (all : length q.arrivals.timings ≤ bound) where
  pub all_next : (best : Option Due) → IsFirst q done now bound best → IfSome best (IsDue q done now)
  all_next None below = tt
  all_next (Some due) below = record {
    next = record {
      pending = below.pending;
      first = λ e k other pending.
          let inside = sound.known e k other pending.is_it in
          let first = below.first e k other (omega (arith, inside, all)) pending in
          subst (λ tick. ComesFirst tick due.event due.index (other.tick + slice_index q.deadlines e) e k) below.deadline first;
    };
    deadline = below.deadline;
  }

  pub in_bounds : ((event k : ℕ) (arrival : Arrival) → IsNext q.arrivals q.deadlines done now event k arrival → k ≡ done event) → (best : Option Due) → IsFirst q done now bound best → IfSome best (IsInBounds q done)
  in_bounds lowest None below = tt
  in_bounds lowest (Some due) below =
      let next = all_next (Some due) below in
      let is_it = below.pending.is_it in
      record {
        known = sound.known due.event due.index (arrival_of due) is_it;
        lowest = lowest due.event due.index (arrival_of due) next.next;
        rare = sound.rare due.event due.index (arrival_of due) is_it;
        within = sound.within due.event due.index (arrival_of due) is_it;
      }

  pub none_pending : (best : Option Due) → IsFirst q done now bound best → IfNone best ((event k : ℕ) (other : Arrival) → ¬ (IsPending q.arrivals done now event k other))
  none_pending (Some due) below = tt
  none_pending None none = λ event k other pending.
      let inside = sound.known event k other pending.is_it in
      none event k other (omega (arith, inside, all)) pending
