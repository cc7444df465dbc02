-- No arrival is handled twice, and each in its version.
use Rattle.std.proofs.Common.{◌≡◌, ℕ, zero, suc, ◌≤◌, ◌<◌, List, [], ◌∷◌, ◌++◌, map, reverse, Some, refl, sym, ap, ◌∙◌, subst, arith, append_assoc, append-nil, slice_get}
use Rattle.std.proofs.lemmas.List.{reverse-reverse}
use Rattle.cat_program.specs.declared.outs.LogEntry.{LogEntry}
use Rattle.cat_program.specs.declared.outs.LogEntry.TheVariants.{Out, Ran}
use Rattle.cat_program.specs.declared.syntax.Stepped.{Stepped}
use Rattle.cat_program.specs.declared.syntax.Stepped.TheVariants as stepped
use Rattle.cat_program.specs.Body.{Body}
use Rattle.cat_program.specs.Checked.{body_at, version_at}
use Rattle.cat_program.specs.Meaning.{Output, handled}
use Rattle.cat_program.specs.OutsValue.{entry_of}
use Rattle.event_arrivals.specs.Arrivals.{arrival_at}
use Rattle.event_arrivals.specs.declared.arrival.Arrival.{Arrival}
use Rattle.reference_run.specs.declared.schedule.Item.{Item}
use Rattle.reference_run.specs.Reference.{Moment, advance, done_in, entries_of, next_moment}
use Rattle.logged_runs.specs.Reference.{Setting, Leads, IsRun, version_for}
use Rattle.logged_runs.specs.Own.{AreServedOnce, IsOwn, items_in}
use Rattle.logged_runs.specs.Laws.{counts_of}
use Rattle.logged_runs.proofs.Steps.{and_then_parts, next_parts, to_parts}
use Rattle.logged_runs.proofs.Told.{counted, counts_of-append, counts_of-ran, counts_of-outs, run_items, to_items}

-- the version of an event's arrival with this index
pub record IsVersion (s : Setting) (event index version : ℕ) : Type 0 where
  pub arrival : Arrival
  pub is_it : arrival_at s.arrivals event index ≡ Some arrival
  pub version_is : version_for s event arrival ≡ version

-- each entry of an event has the index that the ones before it leave, and its version
abbrev pub Numbered : Setting → List LogEntry → List LogEntry → Type 0
Numbered s before [] = Unit {0}
Numbered s before (Out channel value ∷ xs) = Numbered s (before ++ Out channel value ∷ []) xs
Numbered s before (Ran event version steps start index ∷ xs) =
    (index ≡ counts_of before event) × IsVersion s event index version × Numbered s (before ++ Ran event version steps start index ∷ []) xs

numbered-append : (s : Setting) (before xs ys : List LogEntry) → Numbered s before xs → Numbered s (before ++ xs) ys → Numbered s before (xs ++ ys)
numbered-append s before [] ys are more = subst (λ (l : List LogEntry). Numbered s l ys) (append-nil before) more
numbered-append s before (Out channel value ∷ xs) ys are more =
    numbered-append s (before ++ Out channel value ∷ []) xs ys are (subst (λ (l : List LogEntry). Numbered s l ys) (sym (append_assoc before (Out channel value ∷ []) xs)) more)
numbered-append s before (Ran event version steps start index ∷ xs) ys are more = (
  are.0,
  are.1,
  numbered-append s (before ++ Ran event version steps start index ∷ []) xs ys are.2
      (subst (λ (l : List LogEntry). Numbered s l ys) (sym (append_assoc before (Ran event version steps start index ∷ []) xs)) more),
)

numbered-outs : (s : Setting) (before : List LogEntry) (outs : List Output) → Numbered s before (map entry_of outs)
numbered-outs s before [] = tt
numbered-outs s before (o ∷ outs) = numbered-outs s (before ++ entry_of o ∷ []) outs

numbered-answer : (s : Setting) (before : List LogEntry) (answer : Stepped) → Numbered s before (entries_of answer)
numbered-answer s before (stepped.Out channel value) = tt
numbered-answer s before stepped.Quiet = tt
numbered-answer s before stepped.None = tt

-- what is known of an entry of an event behind others
record Found (s : Setting) (before : List LogEntry) (event version index : ℕ) : Type 0 where
  late : counts_of before event ≤ index
  version_is : IsVersion s event index version

found_later : (s : Setting) (before : List LogEntry) (x : LogEntry) (event version index : ℕ) → Found s (before ++ x ∷ []) event version index → Found s before event version index
found_later s before x event version index found =
    record { late = (let more = counts_of-append before (x ∷ []) event in let at = found.late in omega arith); version_is = found.version_is }

found : (s : Setting) (before xs : List LogEntry) (i event version steps start index : ℕ) → Numbered s before xs →
    slice_get xs i ≡ Some (Ran event version steps start index) → Found s before event version index
found s before [] i event version steps start index are at = cc
found s before (Out channel value ∷ xs) zero event version steps start index are at = cc
found s before (Out channel value ∷ xs) (suc i) event version steps start index are at =
    found_later s before (Out channel value) event version index (found s (before ++ Out channel value ∷ []) xs i event version steps start index are at)
found s before (Ran e v n t k ∷ xs) zero event version steps start index are at =
    let same_event : e ≡ event = cc in
    let same_version : v ≡ version = cc in
    let same_index : k ≡ index = cc in
    record {
      late = (let first : k ≡ counts_of before e = are.0 in let moved : counts_of before e ≡ counts_of before event = ap (counts_of before) same_event in omega arith);
      version_is = subst (λ (x : ℕ). IsVersion s event index x) same_version (subst (λ (x : ℕ). IsVersion s event x v) same_index (subst (λ (x : ℕ). IsVersion s x k v) same_event are.1));
    }
found s before (Ran e v n t k ∷ xs) (suc i) event version steps start index are at =
    found_later s before (Ran e v n t k) event version index (found s (before ++ Ran e v n t k ∷ []) xs i event version steps start index are.2 at)

-- an entry behind another of its event has a greater index
apart : (s : Setting) (before xs : List LogEntry) (i e v n t k event version steps start index : ℕ) → Numbered s before (Ran e v n t k ∷ xs) →
    slice_get xs i ≡ Some (Ran event version steps start index) → e ≡ event → k < index
apart s before xs i e v n t k event version steps start index are at same =
    let later = found s (before ++ Ran e v n t k ∷ []) xs i event version steps start index are.2 at in
    let late : counts_of (before ++ Ran e v n t k ∷ []) event ≤ index = later.late in
    let more = counts_of-append before (Ran e v n t k ∷ []) e in
    let moved : counts_of (before ++ Ran e v n t k ∷ []) e ≡ counts_of (before ++ Ran e v n t k ∷ []) event = ap (counts_of (before ++ Ran e v n t k ∷ [])) same in
    let itself = counts_of-ran e v n t k in
    let first : k ≡ counts_of before e = are.0 in
    omega arith

once : (s : Setting) (before xs : List LogEntry) (i j event index v n t v' n' t' : ℕ) → Numbered s before xs →
    slice_get xs i ≡ Some (Ran event v n t index) → slice_get xs j ≡ Some (Ran event v' n' t' index) → i ≡ j
once s before [] i j event index v n t v' n' t' are at there = cc
once s before (Out channel value ∷ xs) zero j event index v n t v' n' t' are at there = cc
once s before (Out channel value ∷ xs) (suc i) zero event index v n t v' n' t' are at there = cc
once s before (Out channel value ∷ xs) (suc i) (suc j) event index v n t v' n' t' are at there =
    ap (λ (n : ℕ). suc n) (once s (before ++ Out channel value ∷ []) xs i j event index v n t v' n' t' are at there)
once s before (Ran e x y z k ∷ xs) zero zero event index v n t v' n' t' are at there = refl
once s before (Ran e x y z k ∷ xs) zero (suc j) event index v n t v' n' t' are at there =
    let same : e ≡ event = cc in
    let same_index : k ≡ index = cc in
    let far = apart s before xs j e x y z k event v' n' t' index are there same in
    absurd (omega arith)
once s before (Ran e x y z k ∷ xs) (suc i) zero event index v n t v' n' t' are at there =
    let same : e ≡ event = cc in
    let same_index : k ≡ index = cc in
    let far = apart s before xs i e x y z k event v n t index are at same in
    absurd (omega arith)
once s before (Ran e x y z k ∷ xs) (suc i) (suc j) event index v n t v' n' t' are at there =
    ap (λ (n : ℕ). suc n) (once s (before ++ Ran e x y z k ∷ []) xs i j event index v n t v' n' t' are.2 at there)

-- ---- runs are numbered

step_numbered : (s : Setting) (bodies : ℕ → Body) (m after : Moment) → next_moment bodies m ≡ Some after → Numbered s [] m.entries → Numbered s [] after.entries
step_numbered s bodies m after is are =
    let parts = next_parts bodies m after is in
    subst (λ (x : Moment). Numbered s [] x.entries) parts.is (numbered-append s [] m.entries (entries_of parts.step.answer) are (numbered-answer s m.entries parts.step.answer))

advance_numbered : (s : Setting) (bodies : ℕ → Body) (n : ℕ) (q r : Moment) → advance bodies n q ≡ Some r → Numbered s [] q.entries → Numbered s [] r.entries
unfolding advance
advance_numbered s bodies zero q r is are = let same : q ≡ r = cc in subst (λ (x : Moment). Numbered s [] x.entries) same are
advance_numbered s bodies (suc n) q r is are =
    let parts = and_then_parts (advance bodies n) (next_moment bodies q) r is in
    advance_numbered s bodies n parts.0 r parts.2 (step_numbered s bodies q parts.0 parts.1 are)

run_numbered : (s : Setting) (earlier : List Item) (m : Moment) → IsRun s earlier m → Numbered s [] m.entries
run_numbered s [] m run = subst (λ (x : Moment). Numbered s [] x.entries) (sym run) tt
run_numbered s (item ∷ earlier) m run =
    let leads : Leads s earlier item run.0 m = run.2 in
    let begun = leads.begun in
    let before = advance_numbered s (body_at s.program) _ run.0 leads.begun (to_parts (body_at s.program) item.steps run.0 leads.begun leads.steps).1 (run_numbered s earlier run.0 run.1) in
    let told : reverse (items_in leads.begun.entries) ≡ earlier = ap reverse (to_items (body_at s.program) item.steps run.0 leads.begun leads.steps ∙ run_items s earlier run.0 run.1) ∙ reverse-reverse earlier in
    let index : done_in earlier item.event ≡ counts_of leads.begun.entries item.event = ap (λ (is : List Item). done_in is item.event) (sym told) ∙ counted leads.begun.entries item.event in
    let ran = Ran item.event item.version item.steps item.start (done_in earlier item.event) in
    subst (λ (x : Moment). Numbered s [] x.entries) (sym leads.after_is)
    (numbered-append s [] (leads.begun.entries ++ map entry_of (outs_of leads)) (Ran item.event item.version item.steps item.start (done_in earlier item.event) ∷ [])
    (numbered-append s [] leads.begun.entries (map entry_of (outs_of leads)) before (numbered-outs s leads.begun.entries (outs_of leads)))
    (index ∙ sym (no_more leads.begun.entries (outs_of leads)), record { arrival = leads.arrival; is_it = leads.may.next.pending.is_it; version_is = leads.may.version }, tt))
  where
    outs_of : {before after : Moment} → Leads s earlier item before after → List Output
    outs_of l = (handled (version_at s.program item.event item.version) l.arrival.payload l.begun.state.store).outs

    no_more : (xs : List LogEntry) (outs : List Output) → counts_of (xs ++ map entry_of outs) item.event ≡ counts_of xs item.event
    no_more xs outs = let both = counts_of-append xs (map entry_of outs) item.event in let none = counts_of-outs outs item.event in omega arith

pub own_numbered : (s : Setting) (m : Moment) → IsOwn s m → Numbered s [] m.entries
own_numbered s m own = advance_numbered s (body_at s.program) _ own.begun m (to_parts (body_at s.program) m.steps own.begun m own.total).1 (run_numbered s (reverse (items_in m.entries)) own.begun own.items)

pub served_once : (s : Setting) (m : Moment) → IsOwn s m → AreServedOnce s m.entries
served_once s m own =
    let are : Numbered s [] m.entries = advance_numbered s (body_at s.program) _ own.begun m (to_parts (body_at s.program) m.steps own.begun m own.total).1 (run_numbered s (reverse (items_in m.entries)) own.begun own.items) in
    record {
      once = λ i j event index v n t v' n' t' at there. once s [] m.entries i j event index v n t v' n' t' are at there;
      version = λ i event index v n t at. (let f = (found s [] m.entries i event v n t index are at).version_is in (f.arrival, f.is_it, f.version_is));
    }
