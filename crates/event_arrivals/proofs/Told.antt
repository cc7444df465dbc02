-- What a table tells is sound.
use Rattle.std.proofs.Common.{◌≡◌, ℕ, ℤ, ◌+◌, ◌-◌, ◌≤◌, ◌<◌, nat_le, nat_lt, List, [], ◌∷◌, ◌++◌, length, get_or, Option, Some, None, Result, Ok, Err, true, false, refl, sym, ap, ◌∙◌, subst, length-append, arith}
use Rattle.std.proofs.lemmas.Bool.Decides.{nat_tests}
use Rattle.std.proofs.lemmas.List.{length-map}
use Rattle.std.proofs.lemmas.List.Elements.{All-nil, All-push}
use Rattle.std.specs.Prelude.{IfSome, ◌==◌, if◌then◌else◌}
use Rattle.cn_base.specs.declared.TheConstants.{MOST_TICKS}
use Rattle.cat_program.specs.Checked.{Checked, IsChecked}
use Rattle.cat_program.specs.declared.headers.Event.{Event}
use Rattle.cn_tables.specs.Number.{number_of}
use Rattle.cn_tables.specs.Ranges.{within, word}
use Rattle.cn_tables.specs.Table.{Fields, after_row, read_rows, table_rows, then_rows}
use Rattle.cn_tables.specs.declared.fault.RowKind.{RowKind}
use Rattle.cn_tables.specs.declared.fault.RowKind.TheVariants as kind
use Rattle.harvest_trace.specs.declared.row.TraceRow.{TraceRow}
use Rattle.event_arrivals.specs.Arrivals.{Lists, arrivals_of, lists_of, lists_or_bad, timings_of}
use Rattle.event_arrivals.specs.Rows.{AreRowsOf, arrival_row, arrivals_header, arrivals_step, from_event, from_numbers, from_ranges, last_tick, most_rows, reactive_named, rows_of, with_row}
use Rattle.event_arrivals.specs.Spaced.{AreSound}
use Rattle.event_arrivals.specs.declared.row.ArrivalRow.{ArrivalRow}
use Rattle.event_arrivals.proofs.Events.{named_below}
use Rattle.event_arrivals.proofs.Sound.{have_spacings, sound}

not_more : (n : ℕ) → nat_lt most_rows n ≡ false → n ≤ most_rows
not_more n e = grind (arith, nat_tests)

-- ---- which events rows name

named : (tick : ℕ) (payload : ℤ) (events : ℕ) (found : Option ℕ) (row : ArrivalRow) → IfSome found (λ event. event < events) → from_event tick payload found ≡ Ok row → row.event < events
named tick payload events None row below is = absurd (cc)
named tick payload events (Some event) row below is = let same : event ≡ row.event = cc in omega (arith, below, same)

found_below : (name : List ℕ) (headers : List Event) (found : Option ℕ) → reactive_named name 0 headers ≡ found → IfSome found (λ event. event < length headers)
found_below name headers None is = tt
found_below name headers (Some event) is = omega (arith, named_below name 0 headers event is)

by_ranges : (headers : List Event) (name : List ℕ) (tick : Option ℕ) (payload : Option ℤ) (row : ArrivalRow) → from_ranges headers name tick payload ≡ Ok row → row.event < length headers
by_ranges headers name None payload row is = absurd (cc)
by_ranges headers name (Some tick) None row is = absurd (cc)
by_ranges headers name (Some tick) (Some payload) row is =
    named tick payload (length headers) (reactive_named name 0 headers) row (found_below name headers (reactive_named name 0 headers) refl) is

by_numbers : (headers : List Event) (name : List ℕ) (tick payload : Option ℤ) (row : ArrivalRow) → from_numbers headers name tick payload ≡ Ok row → row.event < length headers
by_numbers headers name None payload row is = absurd (cc)
by_numbers headers name (Some tick) None row is = absurd (cc)
by_numbers headers name (Some tick) (Some payload) row is = by_ranges headers name (within 0 (MOST_TICKS - 1) tick) (word payload) row is

by_fields : (headers : List Event) (fields : Fields) (row : ArrivalRow) → arrival_row headers fields ≡ Ok row → row.event < length headers
by_fields headers fields row is =
    let name : List ℕ = get_or fields 1 [] in
    let tick : Option ℤ = number_of (get_or fields 0 []) in
    let payload : Option ℤ = number_of (get_or fields 2 []) in
    elim (length fields == 3) as (λ b. (if b then from_numbers headers name tick payload else Err kind.Fields) ≡ Ok row → row.event < length headers) [
      | true ↦ (λ e. by_numbers headers name tick payload row e)
      | false ↦ (λ e. absurd (cc))
    ] is

-- ---- row by row

-- a row that is read is one of not too many, and of an event that there is
record Adds (headers : List Event) (n : ℕ) (before next : List ArrivalRow) : Type 0 where
  within : n ≤ most_rows
  one : length next ≡ length before + 1
  known : AreRowsOf (length headers) next

with_one : (headers : List Event) (n : ℕ) (before next : List ArrivalRow) (row : Result ArrivalRow RowKind) → n ≤ most_rows → AreRowsOf (length headers) before
    → ((r : ArrivalRow) → row ≡ Ok r → r.event < length headers) → with_row before row ≡ Ok next → Adds headers n before next
with_one headers n before next (Err bad) few known here is = absurd (cc)
with_one headers n before next (Ok row) few known here is =
    elim (nat_le (last_tick 0 before) row.tick) as (λ b. (if b then Ok (before ++ row ∷ []) else Err kind.Order) ≡ Ok next → Adds headers n before next) [
      | true ↦ (λ e. let same : before ++ row ∷ [] ≡ next = cc in
          record {
            within = few;
            one = omega (arith, ap length (sym same), length-append before (row ∷ []));
            known = subst (AreRowsOf (length headers)) same (All-push (λ (r : ArrivalRow). r.event < length headers) before row known (here row refl));
          })
      | false ↦ (λ e. absurd (cc))
    ] is

adds : (headers : List Event) (n : ℕ) (before next : List ArrivalRow) (fields : Fields) → AreRowsOf (length headers) before → arrivals_step headers n before fields ≡ Ok next → Adds headers n before next
adds headers n before next fields known is =
    elim (nat_lt most_rows n) as (λ b. nat_lt most_rows n ≡ b → (if b then Err kind.Many else with_row before (arrival_row headers fields)) ≡ Ok next → Adds headers n before next) [
      | true ↦ (λ many e. absurd (cc))
      | false ↦ (λ few e. with_one headers n before next (arrival_row headers fields) (not_more n few) known (by_fields headers fields) e)
    ] refl is

-- rows that were read are few, and of events that there are
pub record AreRead (headers : List Event) (found : List ArrivalRow) : Type 0 where
  pub few : length found ≤ most_rows
  pub known : AreRowsOf (length headers) found

read_from : (headers : List Event) (n : ℕ) (before : List ArrivalRow) (rows : List Fields) (found : List ArrivalRow) → length before + 1 ≡ n → AreRead headers before
    → read_rows (arrivals_step headers) n before rows ≡ Ok found → AreRead headers found
unfolding read_rows
read_from headers n before [] found counted before_is is = let same : before ≡ found = cc in subst (AreRead headers) same before_is
read_from headers n before (fields ∷ rest) found counted before_is is =
    elim (arrivals_step headers n before fields) as (λ r. arrivals_step headers n before fields ≡ r → after_row (λ next. read_rows (arrivals_step headers) (n + 1) next rest) n r ≡ Ok found → AreRead headers found) [
      | Ok next ↦ (λ step e.
          let more = adds headers n before next fields before_is.known step in
          read_from headers (n + 1) next rest found (omega (arith, more.one)) (record { few = omega (arith, more.one, more.within); known = more.known }) e)
      | Err bad ↦ (λ step e. absurd (cc))
    ] refl is

pub told_rows : (headers : List Event) (rows : List Fields) (found : List ArrivalRow) → read_rows (arrivals_step headers) 1 [] rows ≡ Ok found → AreRead headers found
told_rows headers rows found is =
    read_from headers 1 [] rows found refl (record { few = omega arith; known = All-nil (λ (r : ArrivalRow). r.event < length headers) }) is

few_told : (headers : List Event) (bytes : List ℕ) (found : List ArrivalRow) → rows_of headers bytes ≡ Ok found → AreRead headers found
few_told headers bytes found is =
    elim (table_rows arrivals_header bytes) as (λ r. then_rows (read_rows (arrivals_step headers) 1 []) r ≡ Ok found → AreRead headers found) [
      | Ok rows ↦ (λ e. told_rows headers rows found e)
      | Err bad ↦ (λ e. absurd (cc))
    ] is

-- ---- all rows

-- what is told of a checked program's events
record IsTold (p : Checked) (lists : Lists) : Type 0 where
  timings : lists.timings ≡ timings_of p.headers
  events : length lists.timings ≡ length p.events
  sound : AreSound lists

module _ (have : (p : Checked) → IsChecked p → length p.headers ≡ length p.events) (p : Checked) (trace : List TraceRow) (bytes : List ℕ) (lists : Lists) (checked : IsChecked p) (is : arrivals_of p.headers trace bytes ≡ Ok lists) where
  told : IsTold p lists
  told =
      elim (rows_of p.headers bytes) as (λ r. rows_of p.headers bytes ≡ r → lists_or_bad (timings_of p.headers) trace r ≡ Ok lists → IsTold p lists) [
        | Ok rows ↦ (λ read e.
            let same : lists_of (timings_of p.headers) trace rows ≡ lists = cc in
            let rows_are = few_told p.headers bytes rows read in
            let count = length-map p.headers (λ (header : Event). header.timing) in
            subst (λ (l : Lists). IsTold p l) same
            (record {
              timings = refl;
              events = count ∙ have p checked;
              sound = sound (timings_of p.headers) trace rows (have_spacings p.headers p.events checked.declares) rows_are.few (subst (λ n. AreRowsOf n rows) (sym count) rows_are.known);
            }))
        | Err bad ↦ (λ read e. absurd (cc))
      ] refl is

  pub told_timings : lists.timings ≡ timings_of p.headers
  told_timings = told.timings

  pub told_events : length lists.timings ≡ length p.events
  told_events = told.events

  pub told_sound : AreSound lists
  told_sound = told.sound
