-- A program's tables are those of which versions can be chosen.
use Rattle.std.proofs.Common.{◌≡◌, ℕ, zero, suc, ◌+◌, ◌*◌, ◌<◌, ◌≤◌, List, [], ◌∷◌, ◌++◌, length, Some, take, drop, inl, inr, refl, sym, ap, ◌∙◌, length-append, arith}
use Rattle.std.specs.Prelude.{◌==◌, cond, map, slice_get, slice_index, slice_index_or, unwrap_or}
use Rattle.std.proofs.lemmas.Bool.{cases_lt, cond-true, cond-false, ne_eqb}
use Rattle.std.proofs.Math.ListN.{get_or-append}
use Rattle.std.proofs.Math.Seq.{get_or-append_seam}
use Rattle.std.proofs.lemmas.Bool.Decides.{Decides-eqb, eqb_tells}
use Rattle.std.proofs.lemmas.List.Sums.{sum_by-cons, sum_by-take-le}
use Rattle.std.proofs.lemmas.List.{length-map}
use Rattle.cat_program.specs.declared.headers.Event.{Event}
use Rattle.cat_program.specs.Declares.{spacing_of, EventIs, EachEventIs, EachDegrades}
use Rattle.cat_program.specs.Checked.{Checked, IsChecked, EachBelow}
use Rattle.cost_bounds.specs.declared.job.Job.{Job}
use Rattle.demand_core.specs.declared.Load.{Load}
use Rattle.feasibility.specs.Chosen as chosen
use Rattle.feasibility.specs.Chosen.{no_load, version_of, versions_of, loads_of, AreTables}
use Rattle.cost_bounds.specs.BoundsValue.{BoundsValue}
use Rattle.nv_memory.specs.declared.device.Device.{Device}
use Rattle.degradation.specs.declared.chosen.Chosen.{Chosen}
use Rattle.degradation.specs.declared.supply.Supply.{Supply}
use Rattle.degradation.specs.Choice.{load_of, tables_of, HasBounds, IsChoice, Suits}

-- each event has a header
abbrev pub HaveHeaders : Type 0
HaveHeaders = (p : Checked) → IsChecked p → length p.headers ≡ length p.events

-- ---- how long the degrade order is

-- the mentions of the first n events
counted : ℕ → List ℕ → ℕ
counted zero ms = 0
counted (suc n) ms = counted n ms + version_of ms n

counted_none : (n : ℕ) → counted n [] ≡ 0
unfolding counted
counted_none zero = refl
counted_none (suc n) = omega (arith, counted_none n)

mentioned_here : (m n : ℕ) (ms : List ℕ) → m ≡ n → version_of (m ∷ ms) n ≡ suc (version_of ms n)
mentioned_here m n ms e =
    omega (arith, sum_by-cons (λ x. cond (x == n) 1 0) m ms, cond-true {A = ℕ} (m == n) 1 0 ((Decides-eqb m n).1 e))

mentioned_elsewhere : (m n : ℕ) (ms : List ℕ) → (m ≡ n → ⊥) → version_of (m ∷ ms) n ≡ version_of ms n
mentioned_elsewhere m n ms other =
    omega (arith, sum_by-cons (λ x. cond (x == n) 1 0) m ms, cond-false {A = ℕ} (m == n) 1 0 (ne_eqb m n other))

counted_below : (n m : ℕ) (ms : List ℕ) → n ≤ m → counted n (m ∷ ms) ≡ counted n ms
unfolding counted
counted_below zero m ms le = refl
counted_below (suc n) m ms le =
    let here = mentioned_elsewhere m n ms (λ e. omega arith) in
    let before = counted_below n m ms (omega arith) in
    omega arith

counted_more : (n m : ℕ) (ms : List ℕ) → m < n → counted n (m ∷ ms) ≡ suc (counted n ms)
unfolding counted
counted_more zero m ms lt = absurd (omega arith)
counted_more (suc n) m ms lt =
    elim (eqb_tells m n) [
      | inl same ↦ omega (arith, mentioned_here m n ms same.1, counted_below n m ms (omega arith))
      | inr other ↦ omega (arith, mentioned_elsewhere m n ms other.1, counted_more n m ms (omega (arith, other.1)))
    ]

counted_all : (n : ℕ) (ms : List ℕ) → EachBelow n ms → counted n ms ≡ length ms
counted_all n [] each = counted_none n
counted_all n (m ∷ ms) each = counted_more n m ms each.0 ∙ ap suc (counted_all n ms each.1)

rarely : (ms : List ℕ) (k : ℕ) (hs : List Event) (es : List (List ℕ)) (e n : ℕ) → n ≡ k + e → EachEventIs hs es → EachDegrades ms k es → e < length es → version_of ms n ≤ 4
rarely ms k hs [] e n is each degrades lt = absurd (omega arith)
rarely ms k [] (vs ∷ es) e n is each degrades lt = absurd each
rarely ms k (h ∷ hs) (vs ∷ es) zero n is each degrades lt =
    let same : n ≡ k = omega arith in
    rw same (omega (arith, degrades.0, each.0.few))
rarely ms k (h ∷ hs) (vs ∷ es) (suc e) n is each degrades lt = rarely ms (k + 1) hs es e n (omega arith) each.1 degrades.1 (omega arith)

counted_few : (n : ℕ) (ms : List ℕ) → ((e : ℕ) → e < n → version_of ms e ≤ 4) → counted n ms ≤ 4 * n
unfolding counted
counted_few zero ms each = omega arith
counted_few (suc n) ms each = omega (arith, each n (omega arith), counted_few n ms (λ e lt. each e (omega arith)))

-- ---- the tables

-- the loads of an event whose versions cost this much
record IsTable (count : ℕ) (table : List Load) : Type 0 where
  enough : count < length table
  spacing : (v : ℕ) → v < length table → 0 < (slice_index_or table v no_load).spacing
  deadline : (v : ℕ) → v < length table → (slice_index_or table v no_load).deadline ≤ (slice_index_or table v no_load).spacing
  same : (v : ℕ) → v < length table → (slice_index_or table v no_load).spacing ≡ (slice_index_or table 0 no_load).spacing

spacing_at : (h : Event) (jobs : List Job) (v : ℕ) → v < length (map (load_of h) jobs) → (slice_index_or (map (load_of h) jobs) v no_load).spacing ≡ spacing_of h.timing
spacing_at h [] v lt = absurd (omega arith)
spacing_at h (job ∷ jobs) zero lt = refl
spacing_at h (job ∷ jobs) (suc v) lt = spacing_at h jobs v (omega arith)

deadline_at : (h : Event) (jobs : List Job) (v : ℕ) → v < length (map (load_of h) jobs) → (slice_index_or (map (load_of h) jobs) v no_load).deadline ≡ h.deadline
deadline_at h [] v lt = absurd (omega arith)
deadline_at h (job ∷ jobs) zero lt = refl
deadline_at h (job ∷ jobs) (suc v) lt = deadline_at h jobs v (omega arith)

is_table : (h : Event) (vs : List ℕ) (jobs : List Job) (count : ℕ) → EventIs h vs → length jobs ≡ length vs → count < length vs → IsTable count (map (load_of h) jobs)
is_table h vs jobs count is same less =
    record {
      enough = omega (arith, length-map jobs (load_of h));
      spacing = λ v lt. omega (arith, is.due, is.in_time, spacing_at h jobs v lt);
      deadline = λ v lt. omega (arith, is.in_time, spacing_at h jobs v lt, deadline_at h jobs v lt);
      same = λ v lt. spacing_at h jobs v lt ∙ sym (spacing_at h jobs 0 (omega arith));
    }

table_at : (ms : List ℕ) (k : ℕ) (hs : List Event) (es : List (List ℕ)) (jobs : List (List Job)) (e n : ℕ) → n ≡ k + e → EachEventIs hs es → EachDegrades ms k es
    → map length jobs ≡ map length es → e < length es → IsTable (version_of ms n) (slice_index_or (tables_of hs jobs) e [])
table_at ms k hs [] jobs e n is each degrades same lt = absurd (omega arith)
table_at ms k [] (vs ∷ es) jobs e n is each degrades same lt = absurd each
table_at ms k (h ∷ hs) (vs ∷ es) [] e n is each degrades same lt = absurd (omega (arith, ap length same))
table_at ms k (h ∷ hs) (vs ∷ es) (versions ∷ jobs) zero n is each degrades same lt =
    let this : n ≡ k = omega arith in
    rw this (is_table h vs versions (version_of ms k) each.0 (ap (λ l. slice_index_or l 0 0) same) degrades.0)
table_at ms k (h ∷ hs) (vs ∷ es) (versions ∷ jobs) (suc e) n is each degrades same lt =
    table_at ms (k + 1) hs es jobs e n (omega arith) each.1 degrades.1 (ap (drop 1) same) (omega arith)

tables_length : (hs : List Event) (jobs : List (List Job)) → length hs ≡ length jobs → length (tables_of hs jobs) ≡ length hs
tables_length [] jobs same = refl
tables_length (h ∷ hs) [] same = absurd (omega arith)
tables_length (h ∷ hs) (versions ∷ jobs) same = ap suc (tables_length hs jobs (omega arith))

-- one table more
pub tables_more : (hs : List Event) (jobs : List (List Job)) (e : ℕ) (h : Event) → slice_get hs e ≡ Some h → e < length jobs
    → take (e + 1) (tables_of hs jobs) ≡ take e (tables_of hs jobs) ++ map (load_of h) (unwrap_or (slice_get jobs e) []) ∷ []
tables_more [] jobs e h is lt = absurd (cc)
tables_more (h' ∷ hs) [] e h is lt = absurd (omega arith)
tables_more (h' ∷ hs) (versions ∷ jobs) zero h is lt =
    let same : h' ≡ h = cc in
    ap (λ x. map (load_of x) versions ∷ []) same
tables_more (h' ∷ hs) (versions ∷ jobs) (suc e) h is lt =
    let next : suc e + 1 ≡ suc (e + 1) = omega arith in
    rw next (ap (λ rest. map (load_of h') versions ∷ rest) (tables_more hs jobs e h is (omega arith)))

pub header_at : (hs : List Event) (es : List (List ℕ)) (jobs : List (List Job)) (e : ℕ) (h : Event) → EachEventIs hs es → map length jobs ≡ map length es → slice_get hs e ≡ Some h
    → h.versions ≡ length (unwrap_or (slice_get jobs e) [])
header_at [] es jobs e h each same is = absurd (cc)
header_at (h' ∷ hs) [] jobs e h each same is = absurd each
header_at (h' ∷ hs) (vs ∷ es) [] e h each same is = absurd (omega (arith, ap length same))
header_at (h' ∷ hs) (vs ∷ es) (versions ∷ jobs) zero h each same is =
    let this : h' ≡ h = cc in
    ap (λ (x : Event). x.versions) (sym this) ∙ each.0.versions_are ∙ sym (ap (λ l. slice_index_or l 0 0) same)
header_at (h' ∷ hs) (vs ∷ es) (versions ∷ jobs) (suc e) h each same is = header_at hs es jobs e h each.1 (ap (drop 1) same) is

-- ---- a program's

pub jobs_count : (p : Checked) (jobs : List (List Job)) → map length jobs ≡ map length p.events → length jobs ≡ length p.events
jobs_count p jobs same = sym (length-map jobs length) ∙ ap length same ∙ length-map p.events length

pub tables_count : HaveHeaders → (p : Checked) (jobs : List (List Job)) → IsChecked p → map length jobs ≡ map length p.events → length (tables_of p.headers jobs) ≡ length p.events
tables_count have p jobs checked same =
    let headers = have p checked in
    tables_length p.headers jobs (headers ∙ sym (jobs_count p jobs same)) ∙ headers

pub are_tables : HaveHeaders → (p : Checked) (jobs : List (List Job)) → IsChecked p → map length jobs ≡ map length p.events → AreTables (tables_of p.headers jobs) p.mentions
are_tables have p jobs checked same =
    let count = tables_count have p jobs checked same in
    let few = counted_few (length p.events) p.mentions (λ e lt. rarely p.mentions 0 p.headers p.events e e (omega arith) checked.declares checked.degrades lt) in
    let at = λ (e : ℕ) (lt : e < length (tables_of p.headers jobs)). table_at p.mentions 0 p.headers p.events jobs e e (omega arith) checked.declares checked.degrades same (omega arith) in
    record {
      few = omega (arith, checked.few_events);
      short = omega (arith, checked.few_events, counted_all (length p.events) p.mentions checked.mentions_in);
      enough = λ e lt. (at e lt).enough;
      spacing = λ e v lt within. (at e lt).spacing v within;
      deadline = λ e v lt within. (at e lt).deadline v within;
      same = λ e v lt within. (at e lt).same v within;
    }

-- ---- what is chosen suits the program

versions_length : (front : List ℕ) (n : ℕ) → length (versions_of front n) ≡ n
unfolding versions_of
versions_length front zero = refl
versions_length front (suc n) = omega (arith, length-append (versions_of front n) (version_of front n ∷ []), versions_length front n)

pub loads_length : (tables : List (List Load)) (front : List ℕ) (n : ℕ) → length (loads_of tables front n) ≡ n
unfolding loads_of
loads_length tables front zero = refl
loads_length tables front (suc n) = omega (arith, length-append (loads_of tables front n) (chosen.load_of tables front n ∷ []), loads_length tables front n)

pub version_at : (front : List ℕ) (n e : ℕ) → e < n → slice_index (versions_of front n) e ≡ version_of front e
unfolding versions_of
version_at front zero e lt = absurd (omega arith)
version_at front (suc n) e lt =
    let long = versions_length front n in
    elim (cases_lt e n) [
      | inl sooner ↦ get_or-append (versions_of front n) (version_of front n ∷ []) 0 e (omega arith) ∙ version_at front n e sooner
      | inr last ↦
          let here : e ≡ length (versions_of front n) = omega arith in
          let same : n ≡ e = omega arith in
          ap (λ i. slice_index (versions_of front n ++ version_of front n ∷ []) i) here
          ∙ get_or-append_seam (versions_of front n) (version_of front n) [] 0
          ∙ ap (version_of front) same
    ]

pub degraded : (ms : List ℕ) (k : ℕ) (es : List (List ℕ)) (e n : ℕ) → n ≡ k + e → EachDegrades ms k es → e < length es → version_of ms n < length (unwrap_or (slice_get es e) [])
degraded ms k [] e n is degrades lt = absurd (omega arith)
degraded ms k (vs ∷ es) zero n is degrades lt =
    let same : n ≡ k = omega arith in
    rw same degrades.0
degraded ms k (vs ∷ es) (suc e) n is degrades lt = degraded ms (k + 1) es e n (omega arith) degrades.1 (omega arith)

pub suits : HaveHeaders → (p : Checked) (b : BoundsValue) (device : Device) (supply : Supply) (lines : ℕ) (c : Chosen) → IsChecked p → HasBounds p b → IsChoice p b device supply lines c → Suits p c
suits have p b device supply lines c checked same choice =
    let count = tables_count have p b.jobs checked same in
    let front = take choice.is.k p.mentions in
    let versions : c.versions ≡ versions_of front (length (tables_of p.headers b.jobs)) = choice.versions ∙ choice.is.is.versions in
    let loads : c.loads ≡ loads_of (tables_of p.headers b.jobs) front (length (tables_of p.headers b.jobs)) = choice.loads ∙ choice.is.is.loads in
    record {
      versions = ap length versions ∙ versions_length front (length (tables_of p.headers b.jobs)) ∙ count;
      loads = ap length loads ∙ loads_length (tables_of p.headers b.jobs) front (length (tables_of p.headers b.jobs)) ∙ count;
      there = λ e lt. (lt, omega (arith, ap (λ l. slice_index l e) versions, version_at front (length (tables_of p.headers b.jobs)) e (omega arith), sum_by-take-le (λ m. cond (m == e) 1 0) p.mentions choice.is.k, degraded p.mentions 0 p.events e e (omega arith) checked.degrades lt));
    }
