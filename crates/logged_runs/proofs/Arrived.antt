-- What a run has handled has come, and each of its arrivals has an entry.
use Rattle.std.proofs.Common.{◌≡◌, ℕ, zero, suc, ◌+◌, ◌≤◌, ◌<◌, inl, inr, List, [], ◌∷◌, ◌++◌, reverse, Some, refl, sym, ap, ◌∙◌, subst, arith, append_assoc, slice_get, ◌==◌, cond, Bool}
use Rattle.std.proofs.lemmas.Bool.{cases_eq, cases_lt, eq-eqb, ne_eqb}
use Rattle.std.proofs.lemmas.List.Sums.{sum_by-cons}
use Rattle.cat_program.specs.declared.outs.LogEntry.{LogEntry}
use Rattle.cat_program.specs.declared.outs.LogEntry.TheVariants.{Out, Ran}
use Rattle.event_arrivals.specs.Arrivals.{Lists}
use Rattle.event_arrivals.specs.Counts.{came, AreCounted}
use Rattle.event_arrivals.specs.Spaced.{AreSound}
use Rattle.recovery.specs.Committed.{is_ran}
use Rattle.reference_run.specs.declared.schedule.Item.{Item}
use Rattle.reference_run.specs.Reference.{Moment, done_in, last_start}
use Rattle.logged_runs.specs.Reference.{Setting, Leads, IsRun}
use Rattle.logged_runs.specs.Own.{IsOwn, items_in}
use Rattle.logged_runs.specs.Laws.{counts_of, last_start_of, OwnRunsHandleArrivals}
use Rattle.logged_runs.proofs.Told.{counted, counts_of-append, counts_of-ran}
use Rattle.logged_runs.proofs.Served.{Numbered, own_numbered}

abbrev one_if : Bool → ℕ
one_if b = cond b 1 0

-- ---- what is handled has come

run_come : (s : Setting) → AreCounted s.arrivals → (earlier : List Item) (m : Moment) (event : ℕ) → IsRun s earlier m → done_in earlier event ≤ came s.arrivals event (last_start earlier + 1)
run_come s counts [] m event run = let none : done_in [] event ≡ 0 = refl in omega (arith, none)
run_come s counts (item ∷ earlier) m event run =
    let leads : Leads s earlier item run.0 m = run.2 in
    let rest = run_come s counts earlier run.0 event run.1 in
    let order = leads.may.in_order in
    let later = counts.later event (last_start earlier + 1) (item.start + 1) (omega arith) in
    let more = sum_by-cons (λ (x : Item). cond (x.event == event) 1 0) item earlier in
    elim (cases_eq item.event event) [
      | inl same ↦
          let pending = leads.may.next.pending in
          let come = pending.come in
          let one = counts.counted item.event (done_in earlier item.event) (item.start + 1) leads.arrival pending.is_it (omega arith) in
          let here : done_in earlier event < came s.arrivals event (item.start + 1) = subst (λ (e : ℕ). done_in earlier e < came s.arrivals e (item.start + 1)) same one in
          let yes' : one_if (item.event == event) ≡ 1 = ap one_if (eq-eqb item.event event same) in
          omega (arith, more, yes')
      | inr other ↦
          let no' : one_if (item.event == event) ≡ 0 = ap one_if (ne_eqb item.event event other) in
          omega (arith, more, no')
    ]

-- ---- each has an entry

-- an entry of an event with this number
abbrev Has : List LogEntry → ℕ → ℕ → Type 0
Has entries event k = (i : ℕ) × (v : ℕ) × (n : ℕ) × (t : ℕ) × (slice_get entries i ≡ Some (Ran event v n t k))

has_later : (x : LogEntry) (xs : List LogEntry) (event k : ℕ) → Has xs event k → Has (x ∷ xs) event k
has_later x xs event k has = (suc has.0, has.1, has.2, has.3, has.4)

told_in : (s : Setting) (before xs : List LogEntry) (event k : ℕ) → Numbered s before xs → counts_of before event ≤ k → k < counts_of (before ++ xs) event → Has xs event k
told_in s before [] event k are from more = absurd (let both = counts_of-append before [] event in let none : counts_of [] event ≡ 0 = refl in omega (arith, both, none))
told_in s before (Out channel value ∷ xs) event k are from more =
    let both = counts_of-append before (Out channel value ∷ []) event in
    let none : counts_of (Out channel value ∷ []) event ≡ 0 = refl in
    let moved : k < counts_of (before ++ Out channel value ∷ [] ++ xs) event = subst (λ (l : List LogEntry). k < counts_of l event) (sym (append_assoc before (Out channel value ∷ []) xs)) more in
    has_later (Out channel value) xs event k (told_in s (before ++ Out channel value ∷ []) xs event k are (omega (arith, both, none)) moved)
told_in s before (Ran e v n t i ∷ xs) event k are from more =
    let both = counts_of-append before (Ran e v n t i ∷ []) event in
    let moved : k < counts_of (before ++ Ran e v n t i ∷ [] ++ xs) event = subst (λ (l : List LogEntry). k < counts_of l event) (sym (append_assoc before (Ran e v n t i ∷ []) xs)) more in
    elim (cases_lt k (counts_of (before ++ Ran e v n t i ∷ []) event)) [
      | inr later ↦ has_later (Ran e v n t i) xs event k (told_in s (before ++ Ran e v n t i ∷ []) xs event k are.2 later moved)
      | inl here ↦
          elim (cases_eq e event) [
            | inl same ↦
                let one : counts_of (Ran e v n t i ∷ []) event ≡ 1 = subst (λ (x : ℕ). counts_of (Ran e v n t i ∷ []) x ≡ 1) same (counts_of-ran e v n t i) in
                let first : i ≡ counts_of before e = are.0 in
                let moved' : counts_of before e ≡ counts_of before event = ap (counts_of before) same in
                let index : i ≡ k = omega (arith, both, one) in
                (0, v, n, t, subst (λ (x : ℕ). Some (Ran e v n t i) ≡ Some (Ran x v n t k)) same (ap (λ (j : ℕ). Some (Ran e v n t j)) index))
            | inr other ↦
                let no' : one_if (event == e) ≡ 0 = ap one_if (ne_eqb event e (λ same. other (sym same))) in
                let none : counts_of (Ran e v n t i ∷ []) event ≡ 0 = one_none event e v n t i no' in
                absurd (omega (arith, both, none))
          ]
    ]
  where
    one_none : (event e v n t i : ℕ) → one_if (event == e) ≡ 0 → counts_of (Ran e v n t i ∷ []) event ≡ 0
    one_none event e v n t i no' =
        let more = sum_by-cons (λ (x : LogEntry). cond (is_ran event x) 1 0) (Ran e v n t i) [] in
        let none : counts_of [] event ≡ 0 = refl in
        let here : one_if (is_ran event (Ran e v n t i)) ≡ 0 = no' in
        omega (arith, more, here, none)

counted_in : (s : Setting) (before xs : List LogEntry) (i event v n t k : ℕ) → Numbered s before xs → slice_get xs i ≡ Some (Ran event v n t k) → k < counts_of (before ++ xs) event
counted_in s before [] i event v n t k are at = cc
counted_in s before (Out channel value ∷ xs) zero event v n t k are at = cc
counted_in s before (Out channel value ∷ xs) (suc i) event v n t k are at =
    subst (λ (l : List LogEntry). k < counts_of l event) (append_assoc before (Out channel value ∷ []) xs) (counted_in s (before ++ Out channel value ∷ []) xs i event v n t k are at)
counted_in s before (Ran e v' n' t' j ∷ xs) zero event v n t k are at =
    let same : e ≡ event = cc in
    let index : j ≡ k = cc in
    let first : j ≡ counts_of before e = are.0 in
    let moved : counts_of before e ≡ counts_of before event = ap (counts_of before) same in
    let one : counts_of (Ran e v' n' t' j ∷ []) event ≡ 1 = subst (λ (x : ℕ). counts_of (Ran e v' n' t' j ∷ []) x ≡ 1) same (counts_of-ran e v' n' t' j) in
    let front = counts_of-append before (Ran e v' n' t' j ∷ []) event in
    let all = counts_of-append (before ++ Ran e v' n' t' j ∷ []) xs event in
    subst (λ (l : List LogEntry). k < counts_of l event) (append_assoc before (Ran e v' n' t' j ∷ []) xs) (omega (arith, front, all, one))
counted_in s before (Ran e v' n' t' j ∷ xs) (suc i) event v n t k are at =
    subst (λ (l : List LogEntry). k < counts_of l event) (append_assoc before (Ran e v' n' t' j ∷ []) xs) (counted_in s (before ++ Ran e v' n' t' j ∷ []) xs i event v n t k are.2 at)

pub handle_arrivals : ((lists : Lists) → AreSound lists → AreCounted lists) → (s : Setting) → OwnRunsHandleArrivals s
handle_arrivals counts s =
    record {
      come = λ m event sound own.
          let come = run_come s (counts s.arrivals sound) (reverse (items_in m.entries)) own.begun event own.items in
          subst (λ (n : ℕ). n ≤ came s.arrivals event (last_start_of m.entries + 1)) (counted m.entries event) come;
      told = λ m event k own more. told_in s [] m.entries event k (own_numbered s m own) (let none : counts_of [] event ≡ 0 = refl in omega (arith, none)) more;
      counted = λ m i event v n t k own at. counted_in s [] m.entries i event v n t k (own_numbered s m own) at;
    }
