-- The arrivals of each event are spaced, and come before the trace's end.
use Rattle.std.proofs.Common.{◌≡◌, ℕ, zero, suc, ◌+◌, ◌*◌, ◌≤◌, ◌<◌, nat_eq, nat_lt, Bool, true, false, List, [], ◌∷◌, get_or, length, map, filter, All, Option, Some, None, refl, sym, ap, ◌∙◌, subst, arith, inl, inr}
use Rattle.std.proofs.lemmas.Bool.{cases_lt}
use Rattle.std.proofs.lemmas.Bool.Decides.{nat_tests}
use Rattle.std.proofs.lemmas.List.{get_or_past, length-map}
use Rattle.std.proofs.lemmas.List.Elements.{All-cons, All-filter, All-head, All-map, All-tail}
use Rattle.std.specs.Prelude.{slice_get, if◌then◌else◌}
use Rattle.cat_program.specs.Declares.{EachEventIs}
use Rattle.cat_program.specs.declared.headers.Event.{Event}
use Rattle.cat_program.specs.declared.headers.Timing.{Timing}
use Rattle.cat_program.specs.declared.headers.Timing.TheVariants.{Every, Spacing}
use Rattle.harvest_trace.specs.Timeline.{life_of, sample_at}
use Rattle.harvest_trace.specs.declared.row.TraceRow.{TraceRow}
use Rattle.event_arrivals.specs.Arrivals.{arrival_by, arrival_of, dropped_of, each_own, lists_of, own_rows, periodic, rows_before, timings_of}
use Rattle.event_arrivals.specs.Rows.{AreRowsOf, most_rows}
use Rattle.event_arrivals.specs.Kept.{dropped_rows, is_apart, is_kept, kept_rows, last_kept, spacing_at, spacing_in}
use Rattle.event_arrivals.specs.Spaced.{AreSound, AreSpaced, HaveSpacings}
use Rattle.event_arrivals.specs.declared.arrival.Arrival.{Arrival}
use Rattle.event_arrivals.specs.declared.arrival.Dropped.{Dropped}
use Rattle.event_arrivals.specs.declared.row.ArrivalRow.{ArrivalRow}
use Rattle.event_arrivals.proofs.Events.{length-each_own}
use Rattle.event_arrivals.proofs.Orders.{in_order, known, rare}
use Rattle.event_arrivals.proofs.KeptLemmas.{equal_or_not, last_kept-other, last_kept-passed, last_kept-taken, nat_eq-other, nat_eq-same}

-- ---- the spacings of a program

pub have_spacings : (headers : List Event) (versions : List (List ℕ)) → EachEventIs headers versions → HaveSpacings (timings_of headers)
have_spacings [] [] h event within = omega (arith, within)
have_spacings [] (v ∷ vs) h event within = absurd h
have_spacings (e ∷ es) [] h event within = absurd h
have_spacings (e ∷ es) (v ∷ vs) h zero within = omega (arith, h.0.due, h.0.in_time)
have_spacings (e ∷ es) (v ∷ vs) h (suc event) within = have_spacings es vs h.1 event (omega arith)

-- ---- kept rows

-- each comes late enough after the one before, and the first one after this one
abbrev Follow : ℕ → Option ℕ → List Arrival → Type 0
Follow least last [] = Unit {0}
Follow least last (a ∷ xs) = (is_apart least last a.tick ≡ true) × Follow least (Some a.tick) xs

kept_follow : (timings : List Timing) (event : ℕ) (earlier rows : List ArrivalRow) → Follow (spacing_at timings event) (last_kept timings event earlier) (own_rows event (kept_rows timings earlier rows))
unfolding kept_rows
kept_follow timings event earlier [] = tt
kept_follow timings event earlier (row ∷ rows) =
    let ends : Option ℕ → Type 0 = λ last. Follow (spacing_at timings event) last (own_rows event (kept_rows timings (row ∷ earlier) rows)) in
    let rest = kept_follow timings event (row ∷ earlier) rows in
    elim (is_kept timings earlier row) as (λ b. is_kept timings earlier row ≡ b → Follow (spacing_at timings event) (last_kept timings event earlier) (own_rows event (if b then row ∷ kept_rows timings (row ∷ earlier) rows else kept_rows timings (row ∷ earlier) rows))) [
      | true ↦ (λ holds. elim (equal_or_not row.event event) [
        | inl same ↦ (let taken : last_kept timings event (row ∷ earlier) ≡ Some row.tick = subst (λ e. last_kept timings e (row ∷ earlier) ≡ Some row.tick) same (last_kept-taken timings earlier row holds) in
            let apart : is_apart (spacing_at timings event) (last_kept timings event earlier) row.tick ≡ true = subst (λ e. is_apart (spacing_at timings e) (last_kept timings e earlier) row.tick ≡ true) same holds in
            let here : nat_eq row.event event ≡ true = subst (λ e. nat_eq row.event e ≡ true) same (nat_eq-same row.event) in
            rw here (apart, subst ends taken rest))
        | inr other ↦ (rw (nat_eq-other row.event event other) (subst ends (last_kept-other timings earlier row event other) rest))
      ])
      | false ↦ (λ fails. elim (equal_or_not row.event event) [
        | inl same ↦ subst ends (subst (λ e. last_kept timings e (row ∷ earlier) ≡ last_kept timings e earlier) same (last_kept-passed timings earlier row fails)) rest
        | inr other ↦ subst ends (last_kept-other timings earlier row event other) rest
      ])
    ] refl

after_last : (least last n : ℕ) (xs : List Arrival) (later : Arrival) → Follow least (Some last) xs → slice_get xs n ≡ Some later → last + (n + 1) * least ≤ later.tick
after_last least last n [] later follow is = cc
after_last least last zero (a ∷ xs) later follow is =
    let same : a.tick ≡ later.tick = cc in
    let apart : last + least ≤ a.tick = grind (arith, nat_tests) in
    omega arith
after_last least last (suc n) (a ∷ xs) later follow is =
    let apart : last + least ≤ a.tick = grind (arith, nat_tests) in
    let rest = after_last least a.tick n xs later follow.1 is in
    omega arith

-- an arrival that is there, and how long before another one
abbrev Sooner : Option Arrival → ℕ → ℕ → Type 0
Sooner found time tick = (sooner : Arrival) × (found ≡ Some sooner) × (sooner.tick + time ≤ tick)

follow_spaced : (least : ℕ) (last : Option ℕ) (xs : List Arrival) (j n : ℕ) (later : Arrival) → Follow least last xs → slice_get xs (j + n) ≡ Some later → Sooner (slice_get xs j) (n * least) later.tick
follow_spaced least last [] j n later follow is = cc
follow_spaced least last (a ∷ xs) zero zero later follow is =
    let same : a.tick ≡ later.tick = cc in
    (a, refl, omega arith)
follow_spaced least last (a ∷ xs) zero (suc n) later follow is =
    let place : zero + suc n ≡ suc n = omega arith in
    let there : slice_get xs n ≡ Some later = subst (λ k. slice_get (a ∷ xs) k ≡ Some later) place is in
    (a, refl, omega (arith, after_last least a.tick n xs later follow.1 there))
follow_spaced least last (a ∷ xs) (suc j) n later follow is =
    let place : suc j + n ≡ suc (j + n) = omega arith in
    let there : slice_get xs (j + n) ≡ Some later = subst (λ k. slice_get (a ∷ xs) k ≡ Some later) place is in
    follow_spaced least (Some a.tick) xs j n later follow.1 there

-- rows before a tick
abbrev AreEarly : ℕ → List ArrivalRow → Type 0
AreEarly life [] = Unit {0}
AreEarly life (row ∷ rows) = (row.tick < life) × AreEarly life rows

early_before : (life : ℕ) (rows : List ArrivalRow) → AreEarly life (rows_before life rows)
early_before life [] = tt
early_before life (row ∷ rows) =
    elim (nat_lt row.tick life) as (λ b. nat_lt row.tick life ≡ b → AreEarly life (if b then row ∷ rows_before life rows else rows_before life rows)) [
      | true ↦ (λ holds. (grind (arith, nat_tests), early_before life rows))
      | false ↦ (λ fails. early_before life rows)
    ] refl

early_kept : (life : ℕ) (timings : List Timing) (earlier rows : List ArrivalRow) → AreEarly life rows → AreEarly life (kept_rows timings earlier rows)
unfolding kept_rows
early_kept life timings earlier [] early = tt
early_kept life timings earlier (row ∷ rows) early =
    elim (is_kept timings earlier row) as (λ b. AreEarly life (if b then row ∷ kept_rows timings (row ∷ earlier) rows else kept_rows timings (row ∷ earlier) rows)) [
      | true ↦ (early.0, early_kept life timings (row ∷ earlier) rows early.1)
      | false ↦ early_kept life timings (row ∷ earlier) rows early.1
    ]

early_here : (life : ℕ) (row : ArrivalRow) (rest : List Arrival) (k : ℕ) (a : Arrival) → row.tick < life → ((i : ℕ) → slice_get rest i ≡ Some a → a.tick < life) → slice_get (arrival_of row ∷ rest) k ≡ Some a → a.tick < life
early_here life row rest zero a early later is = let same : row.tick ≡ a.tick = cc in omega (arith, early)
early_here life row rest (suc k) a early later is = later k is

early_own : (life event : ℕ) (rows : List ArrivalRow) (k : ℕ) (a : Arrival) → AreEarly life rows → slice_get (own_rows event rows) k ≡ Some a → a.tick < life
early_own life event [] k a early is = cc
early_own life event (row ∷ rows) k a early is =
    let later : (i : ℕ) → slice_get (own_rows event rows) i ≡ Some a → a.tick < life = λ i there. early_own life event rows i a early.1 there in
    elim (nat_eq row.event event) as (λ b. slice_get (map arrival_of (if b then row ∷ filter (λ r. nat_eq r.event event) rows else filter (λ r. nat_eq r.event event) rows)) k ≡ Some a → a.tick < life) [
      | true ↦ (λ there. early_here life row (own_rows event rows) k a early.0 later there)
      | false ↦ (λ there. later k there)
    ] is

-- ---- all arrivals

own_at : (first : ℕ) (timings : List Timing) (rows : List ArrivalRow) (event : ℕ) → event < length timings → get_or (each_own first timings rows) event [] ≡ own_rows (first + event) rows
unfolding each_own
own_at first [] rows event within = absurd (let none : ⊥ = omega (arith, within) in none)
own_at first (t ∷ ts) rows zero within = ap (λ e. own_rows e rows) (omega arith)
own_at first (t ∷ ts) rows (suc event) within =
    let same : (first + 1) + event ≡ first + suc event = omega arith in
    own_at (first + 1) ts rows event (omega arith) ∙ ap (λ e. own_rows e rows) same

kept_at : (timings : List Timing) (rows : List ArrivalRow) (event : ℕ) → Follow (spacing_at timings event) None (get_or (each_own 0 timings (kept_rows timings [] rows)) event [])
unfolding last_kept
kept_at timings rows event =
    let kept = kept_rows timings [] rows in
    let follows : List Arrival → Type 0 = λ xs. Follow (spacing_at timings event) None xs in
    elim (cases_lt event (length timings)) [
      | inl within ↦ (let same : own_rows (0 + event) kept ≡ own_rows event kept = ap (λ e. own_rows e kept) (omega arith) in
          subst follows (sym (own_at 0 timings kept event within ∙ same)) (kept_follow timings event [] rows))
      | inr past ↦ subst follows (sym (get_or_past (each_own 0 timings kept) event [] (omega (arith, past, length-each_own 0 timings kept)))) tt
    ]

early_at : (life : ℕ) (timings : List Timing) (rows : List ArrivalRow) (event k : ℕ) (a : Arrival) → AreEarly life rows → slice_get (get_or (each_own 0 timings rows) event []) k ≡ Some a → a.tick < life
early_at life timings rows event k a early is = elim (cases_lt event (length timings)) [
  | inl within ↦ early_own life (0 + event) rows k a early (subst (λ xs. slice_get xs k ≡ Some a) (own_at 0 timings rows event within) is)
  | inr past ↦ (let none : slice_get [] k ≡ Some a = subst (λ xs. slice_get xs k ≡ Some a) (get_or_past (each_own 0 timings rows) event [] (omega (arith, past, length-each_own 0 timings rows))) is in cc)
]

periodic_cases : (tick : ℕ) (trace : List TraceRow) (a : Arrival) → periodic tick trace ≡ Some a → (tick < life_of trace) × (a.tick ≡ tick)
periodic_cases tick trace a is = elim (nat_lt tick (life_of trace)) as (λ b. nat_lt tick (life_of trace) ≡ b → (if b then Some (record { tick = tick; payload = sample_at trace tick }) else None) ≡ Some a → (tick < life_of trace) × (a.tick ≡ tick)) [
  | true ↦ (λ holds there. (grind (arith, nat_tests), cc))
  | false ↦ (λ fails there. cc)
] refl is

periodic_there : (tick : ℕ) (trace : List TraceRow) → tick < life_of trace → periodic tick trace ≡ Some (record { tick = tick; payload = sample_at trace tick })
periodic_there tick trace within =
    let holds : nat_lt tick (life_of trace) ≡ true = grind (arith, nat_tests) in
    rw holds refl

spaced_by : (timing : Option Timing) (xs : List Arrival) (trace : List TraceRow) (j n : ℕ) (later : Arrival) → Follow (spacing_in timing) None xs → arrival_by timing xs trace (j + n) ≡ Some later → Sooner (arrival_by timing xs trace j) (n * spacing_in timing) later.tick
spaced_by None xs trace j n later follow is = cc
spaced_by (Some (Spacing least)) xs trace j n later follow is = follow_spaced least None xs j n later follow is
spaced_by (Some (Every period offset)) xs trace j n later follow is =
    let found = periodic_cases (offset + (j + n) * period) trace later is in
    let within : offset + j * period < life_of trace = omega (arith, found.0) in
    (_, periodic_there (offset + j * period) trace within, omega (arith, found.1))

within_by : (timing : Option Timing) (xs : List Arrival) (trace : List TraceRow) (k : ℕ) (a : Arrival) → (slice_get xs k ≡ Some a → a.tick < life_of trace) → arrival_by timing xs trace k ≡ Some a → a.tick < life_of trace
within_by None xs trace k a early is = cc
within_by (Some (Spacing least)) xs trace k a early is = early is
within_by (Some (Every period offset)) xs trace k a early is =
    let found = periodic_cases (offset + k * period) trace a is in
    omega (arith, found.0, found.1)

-- ---- dropped rows

few_filter : {A : Type 0} (test : A → Bool) (xs : List A) → length (filter test xs) ≤ length xs
few_filter test [] = omega arith
few_filter test (x ∷ xs) =
    elim (test x) as (λ b. length (if b then x ∷ filter test xs else filter test xs) ≤ length (x ∷ xs)) [
      | true ↦ omega (arith, few_filter test xs)
      | false ↦ omega (arith, few_filter test xs)
    ]

few_left : (timings : List Timing) (earlier rows : List ArrivalRow) → length (dropped_rows timings earlier rows) ≤ length rows
unfolding dropped_rows
few_left timings earlier [] = omega arith
few_left timings earlier (row ∷ rows) =
    elim (is_kept timings earlier row) as (λ b. length (if b then dropped_rows timings (row ∷ earlier) rows else row ∷ dropped_rows timings (row ∷ earlier) rows) ≤ length (row ∷ rows)) [
      | true ↦ omega (arith, few_left timings (row ∷ earlier) rows)
      | false ↦ omega (arith, few_left timings (row ∷ earlier) rows)
    ]

known_left : (events : ℕ) (timings : List Timing) (earlier rows : List ArrivalRow) → AreRowsOf events rows → AreRowsOf events (dropped_rows timings earlier rows)
unfolding dropped_rows
known_left events timings earlier [] known = known
known_left events timings earlier (row ∷ rows) known =
    let P : ArrivalRow → Type 0 = λ r. r.event < events in
    let rest = known_left events timings (row ∷ earlier) rows (All-tail P row rows known) in
    elim (is_kept timings earlier row) as (λ b. AreRowsOf events (if b then dropped_rows timings (row ∷ earlier) rows else row ∷ dropped_rows timings (row ∷ earlier) rows)) [
      | true ↦ rest
      | false ↦ All-cons P row (dropped_rows timings (row ∷ earlier) rows) (All-head P row rows known) rest
    ]

known_dropped : (timings : List Timing) (rows : List ArrivalRow) (life : ℕ) → AreRowsOf (length timings) rows → All (λ (row : Dropped). row.event < length timings) (map dropped_of (dropped_rows timings [] (rows_before life rows)))
known_dropped timings rows life known =
    All-map (λ (row : Dropped). row.event < length timings) dropped_of (dropped_rows timings [] (rows_before life rows))
    (known_left (length timings) timings [] (rows_before life rows) (All-filter (λ (row : ArrivalRow). nat_lt row.tick life) (λ (row : ArrivalRow). row.event < length timings) rows known))

pub sound : (timings : List Timing) (trace : List TraceRow) (rows : List ArrivalRow) → HaveSpacings timings → length rows ≤ most_rows → AreRowsOf (length timings) rows → AreSound (lists_of timings trace rows)
sound timings trace rows apart few known_rows =
    let life = life_of trace in
    let before = rows_before life rows in
    let early = early_kept life timings [] before (early_before life rows) in
    let spaced : AreSpaced (lists_of timings trace rows) =
    λ event j n later is. spaced_by (slice_get timings event) (get_or (each_own 0 timings (kept_rows timings [] before)) event []) trace j n later (kept_at timings before event) is in
    record {
      known = known (lists_of timings trace rows);
      apart = apart;
      spaced = spaced;
      in_order = in_order (lists_of timings trace rows) spaced;
      rare = rare (lists_of timings trace rows) apart spaced;
      within = λ event k a is. within_by (slice_get timings event) (get_or (each_own 0 timings (kept_rows timings [] before)) event []) trace k a (λ there. early_at life timings (kept_rows timings [] before) event k a early there) is;
      few_dropped = omega (arith, few, few_filter (λ row. nat_lt row.tick life) rows, few_left timings [] before, length-map (dropped_rows timings [] before) dropped_of);
      known_dropped = known_dropped timings rows life known_rows;
    }
