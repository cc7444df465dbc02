-- The length of the code from those of tasks and events.
use Rattle.std.proofs.Common.{◌≡◌, ℕ, ◌+◌, ◌-◌, ◌≤◌, List, length, inl, inr, arith}
use Rattle.std.specs.Prelude.{sum_by}
use Rattle.std.proofs.lemmas.List.Sums.{sum_by-take-le}
use Rattle.cat_conditions.specs.Pieces.{Piece}
use Rattle.cat_conditions.specs.Counts.{task_size, event_size}
use Rattle.cat_conditions.specs.Conditions.{MakesCodeLong}
use Rattle.cat_conditions.specs.Offences.{Exceeds, NoneOf, IsFirst}

pub long_by_task : (ps : List Piece) (place : ℕ) → IsFirst (length ps) (Exceeds task_size 60000 ps) place → IsFirst (length ps) (MakesCodeLong ps) place
long_by_task ps place first = record {
  within = first.within;
  here = inl first.here;
  none_before = λ k h long. elim long [ inl task ↦ first.none_before k h task | inr event ↦ absurd (omega (arith, first.here, event.0, sum_by-take-le task_size ps (place + 1))) ];
}

pub long_by_event : (ps : List Piece) (place tasks : ℕ) → NoneOf (length ps) (Exceeds task_size 60000 ps) → tasks ≡ sum_by task_size ps → tasks ≤ 60000
    → IsFirst (length ps) (Exceeds event_size (60000 - tasks) ps) place → IsFirst (length ps) (MakesCodeLong ps) place
long_by_event ps place tasks none total small first = record {
  within = first.within;
  here = inr (omega (arith, total, small), omega (arith, total, small, first.here));
  none_before = λ k h long. elim long [
    | inl task ↦ none k (omega (arith, h, first.within)) task
    | inr event ↦ first.none_before k h (omega (arith, total, small, event.1))
  ];
}

pub short_by_both : (ps : List Piece) (tasks : ℕ) → NoneOf (length ps) (Exceeds task_size 60000 ps) → tasks ≡ sum_by task_size ps → tasks ≤ 60000
    → NoneOf (length ps) (Exceeds event_size (60000 - tasks) ps) → NoneOf (length ps) (MakesCodeLong ps)
short_by_both ps tasks none total small events k h long = elim long [
  | inl task ↦ none k h task
  | inr event ↦ events k h (omega (arith, total, small, event.1))
]
