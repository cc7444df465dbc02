-- What a step and an arrival add to what the entries tell.
use Rattle.std.proofs.Common.{◌≡◌, ℕ, ◌+◌, ◌==◌, cond, List, [], ◌∷◌, ◌++◌, map, reverse, Some, refl, sym, ap, ◌∙◌, arith}
use Rattle.std.specs.Prelude.{if◌then◌else◌}
use Rattle.std.proofs.lemmas.List.{reverse-append}
use Rattle.std.proofs.lemmas.List.Sums.{sum_by-cons}
use Rattle.cat_program.specs.declared.outs.LogEntry.{LogEntry}
use Rattle.cat_program.specs.declared.outs.LogEntry.TheVariants.{Ran}
use Rattle.cat_program.specs.Body.{Body}
use Rattle.cat_program.specs.Meaning.{Handled}
use Rattle.cat_program.specs.OutsValue.{entry_of}
use Rattle.recovery.specs.Committed.{is_ran}
use Rattle.reference_run.specs.declared.schedule.Item.{Item}
use Rattle.reference_run.specs.Reference.{Moment, entries_of, last_start, next_moment, with_handled}
use Rattle.logged_runs.specs.Own.{items_in}
use Rattle.logged_runs.specs.Laws.{EntriesTell, counts_of, last_start_of}
use Rattle.logged_runs.proofs.Steps.{next_parts}
use Rattle.logged_runs.proofs.Told.{counts_of-answer, counts_of-append, counts_of-outs, handled_items, step_items}

step_counts : (bodies : ℕ → Body) (m after : Moment) (event : ℕ) → next_moment bodies m ≡ Some after → counts_of after.entries event ≡ counts_of m.entries event
step_counts bodies m after event is =
    let parts = next_parts bodies m after is in
    let whole : counts_of after.entries event ≡ counts_of (m.entries ++ entries_of parts.step.answer) event = ap (λ (x : Moment). counts_of x.entries event) (sym parts.is) in
    let both = counts_of-append m.entries (entries_of parts.step.answer) event in
    let none = counts_of-answer parts.step.answer event in
    omega arith

step_start : (bodies : ℕ → Body) (m after : Moment) → next_moment bodies m ≡ Some after → last_start_of after.entries ≡ last_start_of m.entries
step_start bodies m after is = ap (λ (is : List Item). last_start (reverse is)) (step_items bodies m after is)

arrival_counts : (m : Moment) (h : Handled) (e event version steps start index : ℕ)
    → counts_of (with_handled m h (Ran event version steps start index)).entries e ≡ counts_of m.entries e + (if e == event then 1 else 0)
arrival_counts m h e event version steps start index =
    let first = counts_of-append (m.entries ++ map entry_of h.outs) (Ran event version steps start index ∷ []) e in
    let second = counts_of-append m.entries (map entry_of h.outs) e in
    let none = counts_of-outs h.outs e in
    let one = sum_by-cons (λ (x : LogEntry). cond (is_ran e x) 1 0) (Ran event version steps start index) [] in
    let nothing : counts_of [] e ≡ 0 = refl in
    omega arith

arrival_start : (m : Moment) (h : Handled) (event version steps start index : ℕ) → last_start_of (with_handled m h (Ran event version steps start index)).entries ≡ start
arrival_start m h event version steps start index =
    let item : Item = record { steps = steps; event = event; version = version; start = start } in
    ap (λ (is : List Item). last_start (reverse is)) (handled_items m.entries h.outs event version steps start index)
    ∙ ap last_start (reverse-append (items_in m.entries) (record { steps = steps; event = event; version = version; start = start } ∷ []))

pub entries_tell : EntriesTell
entries_tell = record { step_counts = step_counts; step_start = step_start; arrival_counts = arrival_counts; arrival_start = arrival_start }
