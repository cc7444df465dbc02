-- Entries tell the items of the run that made them.
use Rattle.std.proofs.Common.{◌≡◌, inl, inr, ℕ, zero, suc, ◌+◌, ◌-◌, ◌==◌, cond, Bool, List, [], ◌∷◌, ◌++◌, map, reverse, Some, refl, sym, ap, ◌∙◌, arith, append-nil}
use Rattle.std.proofs.lemmas.Bool.{cases_eq, eq-eqb, ne_eqb}
use Rattle.std.proofs.lemmas.List.{reverse-append}
use Rattle.std.proofs.lemmas.List.Sums.{sum_by-append, sum_by-cons}
use Rattle.cat_program.specs.declared.outs.LogEntry.{LogEntry}
use Rattle.cat_program.specs.declared.outs.LogEntry.TheVariants.{Out, Ran}
use Rattle.cat_program.specs.declared.syntax.Stepped.{Stepped}
use Rattle.cat_program.specs.declared.syntax.Stepped.TheVariants as stepped
use Rattle.cat_program.specs.Meaning.{Output}
use Rattle.cat_program.specs.Body.{Body}
use Rattle.cat_program.specs.Checked.{body_at, version_at}
use Rattle.cat_program.specs.OutsValue.{entry_of}
use Rattle.cat_program.specs.Meaning.{handled}
use Rattle.recovery.specs.Committed.{is_ran}
use Rattle.reference_run.specs.declared.schedule.Item.{Item}
use Rattle.reference_run.specs.Reference.{Moment, advance, advance_to, done_in, entries_of, next_moment}
use Rattle.logged_runs.specs.Reference.{Setting, Leads, IsRun}
use Rattle.logged_runs.specs.Own.{items_in}
use Rattle.logged_runs.specs.Laws.{counts_of}
use Rattle.logged_runs.proofs.Steps.{and_then_parts, next_parts, to_parts}

pub items_in-append : (xs ys : List LogEntry) → items_in (xs ++ ys) ≡ items_in xs ++ items_in ys
items_in-append [] ys = refl
items_in-append (Out channel value ∷ xs) ys = items_in-append xs ys
items_in-append (Ran event version steps start index ∷ xs) ys = ap (λ (is : List Item). record { steps = steps; event = event; version = version; start = start } ∷ is) (items_in-append xs ys)

pub items_in-answer : (answer : Stepped) → items_in (entries_of answer) ≡ []
items_in-answer (stepped.Out channel value) = refl
items_in-answer stepped.Quiet = refl
items_in-answer stepped.None = refl

pub items_in-outs : (outs : List Output) → items_in (map entry_of outs) ≡ []
items_in-outs [] = refl
items_in-outs (o ∷ outs) = items_in-outs outs

pub step_items : (bodies : ℕ → Body) (m after : Moment) → next_moment bodies m ≡ Some after → items_in after.entries ≡ items_in m.entries
step_items bodies m after is =
    let parts = next_parts bodies m after is in
    ap (λ (x : Moment). items_in x.entries) (sym parts.is) ∙ items_in-append m.entries (entries_of parts.step.answer)
    ∙ ap (λ (is : List Item). items_in m.entries ++ is) (items_in-answer parts.step.answer) ∙ append-nil (items_in m.entries)

advance_items : (bodies : ℕ → Body) (n : ℕ) (q r : Moment) → advance bodies n q ≡ Some r → items_in r.entries ≡ items_in q.entries
unfolding advance
advance_items bodies zero q r is = let same : q ≡ r = cc in ap (λ (x : Moment). items_in x.entries) (sym same)
advance_items bodies (suc n) q r is =
    let parts = and_then_parts (advance bodies n) (next_moment bodies q) r is in
    advance_items bodies n parts.0 r parts.2 ∙ step_items bodies q parts.0 parts.1

pub to_items : (bodies : ℕ → Body) (n : ℕ) (q r : Moment) → advance_to bodies n q ≡ Some r → items_in r.entries ≡ items_in q.entries
to_items bodies n q r is = advance_items bodies (n - q.steps) q r (to_parts bodies n q r is).1

-- the entries that an arrival adds
pub handled_items : (xs : List LogEntry) (outs : List Output) (event version steps start index : ℕ)
    → items_in (xs ++ map entry_of outs ++ Ran event version steps start index ∷ []) ≡ items_in xs ++ record { steps = steps; event = event; version = version; start = start } ∷ []
handled_items xs outs event version steps start index =
    let ran = Ran event version steps start index ∷ [] in
    items_in-append (xs ++ map entry_of outs) (Ran event version steps start index ∷ [])
    ∙ ap (λ (is : List Item). is ++ record { steps = steps; event = event; version = version; start = start } ∷ [])
    (items_in-append xs (map entry_of outs) ∙ ap (λ (is : List Item). items_in xs ++ is) (items_in-outs outs) ∙ append-nil (items_in xs))

pub reverse-cons : {A : Type 0} (x : A) (xs : List A) → reverse (x ∷ xs) ≡ reverse xs ++ x ∷ []
reverse-cons x xs = reverse-append (x ∷ []) xs

pub run_items : (s : Setting) (earlier : List Item) (m : Moment) → IsRun s earlier m → items_in m.entries ≡ reverse earlier
run_items s [] m run = ap (λ (x : Moment). items_in x.entries) run
run_items s (item ∷ earlier) m run =
    let leads : Leads s earlier item run.0 m = run.2 in
    let before = run_items s earlier run.0 run.1 in
    ap (λ (x : Moment). items_in x.entries) leads.after_is
    ∙ handled_items leads.begun.entries (handled (version_at s.program item.event item.version) leads.arrival.payload leads.begun.state.store).outs item.event item.version item.steps item.start (done_in earlier item.event)
    ∙ ap (λ (is : List Item). is ++ item ∷ []) (to_items (body_at s.program) item.steps run.0 leads.begun leads.steps ∙ before)
    ∙ sym (reverse-cons item earlier)

-- ---- counts

is_same : (a b : ℕ) → (a == b) ≡ (b == a)
is_same a b = elim (cases_eq a b) [
  | inl same ↦ eq-eqb a b same ∙ sym (eq-eqb b a (sym same))
  | inr other ↦ ne_eqb a b other ∙ sym (ne_eqb b a (λ same. other (sym same)))
]

abbrev one_if : Bool → ℕ
one_if b = cond b 1 0

pub counted : (entries : List LogEntry) (event : ℕ) → done_in (reverse (items_in entries)) event ≡ counts_of entries event
counted [] event = refl
counted (Out channel value ∷ entries) event =
    let rest = counted entries event in
    let more = sum_by-cons (λ (x : LogEntry). cond (is_ran event x) 1 0) (Out channel value) entries in
    omega (arith, rest, more)
counted (Ran e version steps start index ∷ entries) event =
    let item : Item = record { steps = steps; event = e; version = version; start = start } in
    let rest = counted entries event in
    let more = sum_by-cons (λ (x : LogEntry). cond (is_ran event x) 1 0) (Ran e version steps start index) entries in
    let turned : done_in (reverse (items_in (Ran e version steps start index ∷ entries))) event ≡ done_in (reverse (items_in entries) ++ item ∷ []) event = ap (λ (is : List Item). done_in is event) (reverse-cons item (items_in entries)) in
    let last = sum_by-append (λ (x : Item). cond (x.event == event) 1 0) (reverse (items_in entries)) (item ∷ []) in
    let one = sum_by-cons (λ (x : Item). cond (x.event == event) 1 0) item [] in
    let same = ap one_if (is_same e event) in
    let none : done_in [] event ≡ 0 = refl in
    omega (arith, rest, more, turned, last, one, same, none)

pub counts_of-append : (xs ys : List LogEntry) (event : ℕ) → counts_of (xs ++ ys) event ≡ counts_of xs event + counts_of ys event
counts_of-append xs ys event = sum_by-append (λ (x : LogEntry). cond (is_ran event x) 1 0) xs ys

pub counts_of-answer : (answer : Stepped) (event : ℕ) → counts_of (entries_of answer) event ≡ 0
counts_of-answer (stepped.Out channel value) event = refl
counts_of-answer stepped.Quiet event = refl
counts_of-answer stepped.None event = refl

pub counts_of-outs : (outs : List Output) (event : ℕ) → counts_of (map entry_of outs) event ≡ 0
counts_of-outs [] event = refl
counts_of-outs (o ∷ outs) event =
    let rest = counts_of-outs outs event in
    let more = sum_by-cons (λ (x : LogEntry). cond (is_ran event x) 1 0) (entry_of o) (map entry_of outs) in
    omega (arith, rest, more)

pub counts_of-ran : (event version steps start index : ℕ) → counts_of (Ran event version steps start index ∷ []) event ≡ 1
counts_of-ran event version steps start index =
    let more = sum_by-cons (λ (x : LogEntry). cond (is_ran event x) 1 0) (Ran event version steps start index) [] in
    let same = ap one_if (eq-eqb event event refl) in
    omega (arith, more, same)
