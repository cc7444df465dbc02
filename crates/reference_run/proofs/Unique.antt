-- A schedule has one reference run at most, or one fault.
use Rattle.std.proofs.Common.{◌≡◌, ℕ, zero, suc, ◌+◌, ◌≤◌, ◌<◌, ◌⊎◌, List, [], ◌∷◌, ◌++◌, length, take, drop, reverse, Option, Some, None, refl, sym, ap, ◌∙◌, subst, arith, inl, inr}
use Rattle.std.proofs.lemmas.Bool.{cases_lt}
use Rattle.std.proofs.lemmas.List.{reverse-append, take-append-drop, take_all}
use Rattle.std.proofs.lemmas.Option.{slice_get_within}
use Rattle.std.specs.Prelude.{slice_get}
use Rattle.cat_program.specs.Checked.{body_at}
use Rattle.event_arrivals.specs.Arrivals.{arrival_at}
use Rattle.event_arrivals.specs.declared.arrival.Arrival.{Arrival}
use Rattle.reference_run.specs.declared.schedule.Item.{Item}
use Rattle.reference_run.specs.declared.schedule.Schedule.{Schedule}
use Rattle.reference_run.specs.Reference.{HasFault, IsBroken, IsReference, IsRun, IsShort, Leads, Moment, Setting, advance_to, after_item, done_in}
use Rattle.reference_run.proofs.Going.{earlier_more}

one_moment : (o : Option Moment) (a b : Moment) → o ≡ Some a → o ≡ Some b → a ≡ b
one_moment o a b ea eb = cc

one_arrival : (o : Option Arrival) (a b : Arrival) → o ≡ Some a → o ≡ Some b → a ≡ b
one_arrival o a b ea eb = cc

one_lead : (s : Setting) (earlier : List Item) (item : Item) (before a b : Moment) → Leads s earlier item before a → Leads s earlier item before b → a ≡ b
one_lead s earlier item before a b la lb =
    let begun = one_moment (advance_to (body_at s.program) item.steps before) la.begun lb.begun la.steps lb.steps in
    let arrival = one_arrival (arrival_at s.arrivals item.event (done_in earlier item.event)) la.arrival lb.arrival la.may.next.pending.is_it lb.may.next.pending.is_it in
    la.after_is ∙ ap (λ x. after_item s.program item (done_in earlier item.event) x la.begun) arrival
    ∙ ap (after_item s.program item (done_in earlier item.event) lb.arrival) begun ∙ sym lb.after_is

one_run : (s : Setting) (items : List Item) (a b : Moment) → IsRun s items a → IsRun s items b → a ≡ b
one_run s [] a b ra rb = ra ∙ sym rb
one_run s (item ∷ earlier) a b ra rb =
    let same = one_run s earlier ra.0 rb.0 ra.1 rb.1 in
    one_lead s earlier item rb.0 a b (subst (λ before. Leads s earlier item before a) same ra.2) rb.2

-- a run has come by each of its earlier items
passed : (s : Setting) (later earlier : List Item) (m : Moment) → IsRun s (later ++ earlier) m → (at : Moment) × IsRun s earlier at
passed s [] earlier m run = (m, run)
passed s (item ∷ later) earlier m run = passed s later earlier run.0 run.1

parted : (items : List Item) (n : ℕ) → reverse items ≡ reverse (drop n items) ++ reverse (take n items)
parted items n = ap reverse (sym (take-append-drop n items)) ∙ reverse-append (take n items) (drop n items)

take_within : (items : List Item) (k n : ℕ) → k ≤ n → take k (take n items) ≡ take k items
take_within items zero n order = refl
take_within items (suc k) zero order = absurd (let never : ⊥ = omega (arith, order) in never)
take_within [] (suc k) (suc n) order = refl
take_within (item ∷ items) (suc k) (suc n) order = ap (λ xs. item ∷ xs) (take_within items k n (omega (arith, order)))

-- no run goes through an item that breaks it
not_through : (s : Setting) (items : List Item) (i n : ℕ) (m : Moment) → IsBroken s items i → i < n → IsRun s (reverse (take n items)) m → ⊥
not_through s items i n m broken more run =
    let firsts : take (i + 1) (take n items) ≡ take (i + 1) items = take_within items (i + 1) n (omega (arith, more)) in
    let order : reverse (take n items) ≡ reverse (drop (i + 1) (take n items)) ++ (broken.item ∷ reverse (take i items)) =
    parted (take n items) (i + 1) ∙ ap (λ xs. reverse (drop (i + 1) (take n items)) ++ reverse xs) firsts
    ∙ ap (λ xs. reverse (drop (i + 1) (take n items)) ++ xs) (earlier_more items i broken.item broken.there) in
    let found = passed s (reverse (drop (i + 1) (take n items))) (broken.item ∷ reverse (take i items)) m (subst (λ xs. IsRun s xs m) order run) in
    let at = one_run s (reverse (take i items)) found.1.0 broken.before found.1.1 broken.run in
    broken.stuck found.0 (subst (λ before. Leads s (reverse (take i items)) broken.item before found.0) at found.1.2)

through_all : (s : Setting) (items : List Item) (i : ℕ) (m : Moment) → IsBroken s items i → IsRun s (reverse items) m → ⊥
through_all s items i m broken run =
    not_through s items i (length items) m broken (slice_get_within items i broken.item broken.there)
    (subst (λ xs. IsRun s (reverse xs) m) (sym (take_all (length items) items (omega arith))) run)

pub one_end : (s : Setting) (schedule : Schedule) (a b : Moment) → IsReference s schedule a → IsReference s schedule b → a ≡ b
one_end s schedule a b ra rb =
    let same = one_run s (reverse schedule.items) ra.begun rb.begun ra.items rb.items in
    one_moment (advance_to (body_at s.program) schedule.total rb.begun) a b (subst (λ m. advance_to (body_at s.program) schedule.total m ≡ Some a) same ra.total) rb.total

pub one_fault : (s : Setting) (schedule : Schedule) (i j : ℕ) → HasFault s schedule i → HasFault s schedule j → i ≡ j
one_fault s schedule i j (inl broken) (inl other) = elim (cases_lt i j) [
  | inl less ↦ absurd (not_through s schedule.items i j other.before broken less other.run)
  | inr more ↦ elim (cases_lt j i) [
    | inl less ↦ absurd (not_through s schedule.items j i broken.before other less broken.run)
    | inr same ↦ omega (arith, more, same)
  ]
]
one_fault s schedule i j (inl broken) (inr short) = absurd (through_all s schedule.items i short.before broken short.run)
one_fault s schedule i j (inr short) (inl broken) = absurd (through_all s schedule.items j short.before broken short.run)
one_fault s schedule i j (inr short) (inr other) = short.all ∙ sym other.all

pub no_fault : (s : Setting) (schedule : Schedule) (end : Moment) (i : ℕ) → IsReference s schedule end → HasFault s schedule i → ⊥
no_fault s schedule end i run (inl broken) = through_all s schedule.items i run.begun broken run.items
no_fault s schedule end i run (inr short) =
    let same = one_run s (reverse schedule.items) run.begun short.before run.items short.run in
    let never : None ≡ Some end = sym short.stuck ∙ subst (λ m. advance_to (body_at s.program) schedule.total m ≡ Some end) same run.total in
    cc
