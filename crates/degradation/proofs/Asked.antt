-- What each event asks for in its version.
use Rattle.std.proofs.Common.{◌≡◌, ℕ, zero, suc, ◌+◌, ◌<◌, ◌≤◌, List, [], ◌∷◌, ◌++◌, length, take, map, All, Option, Some, refl, sym, ap, subst, ◌∙◌, arith, get_or, inl, inr}
use Rattle.std.specs.Prelude.{cond, slice_get, slice_index, slice_index_or, unwrap_or, ◌==◌}
use Rattle.std.proofs.lemmas.Bool.{cases_lt}
use Rattle.std.proofs.Math.ListN.{get_or-append}
use Rattle.std.proofs.Math.Seq.{get_or-append_seam}
use Rattle.std.proofs.lemmas.List.Elements.{All-from_get_or}
use Rattle.std.proofs.lemmas.List.Sums.{sum_by-take-le}
use Rattle.std.proofs.lemmas.Option.{get_or_from_slice_get, slice_get-get_or, slice_get_within}
use Rattle.cat_program.specs.Checked.{Checked, IsChecked}
use Rattle.cat_program.specs.Declares.{EachEventIs, EventIs, spacing_of}
use Rattle.cat_program.specs.declared.headers.Event.{Event}
use Rattle.cost_bounds.specs.BoundsValue.{BoundsValue, job_at}
use Rattle.cost_bounds.specs.declared.job.Job.{Job}
use Rattle.demand_core.specs.Demand.{CanRepeat}
use Rattle.demand_core.specs.declared.Load.{Load}
use Rattle.feasibility.specs.Chosen as chosen
use Rattle.feasibility.specs.Chosen.{loads_of, no_load, version_of, versions_of}
use Rattle.nv_memory.specs.declared.device.Device.{Device}
use Rattle.degradation.specs.Choice.{HasBounds, IsChoice, base_of, load_of, tables_of}
use Rattle.degradation.specs.Held.{AreDegraded, IsLoadOf}
use Rattle.degradation.specs.declared.chosen.Chosen.{Chosen}
use Rattle.degradation.specs.declared.supply.Supply.{Supply}
use Rattle.degradation.proofs.Degrades.{HaveHeaders, degraded, jobs_count, loads_length, tables_count, version_at}

pub degraded_by : (p : Checked) (b : BoundsValue) (device : Device) (supply : Supply) (lines : ℕ) (c : Chosen) → IsChoice p b device supply lines c
    → (k : ℕ) × (k ≤ length p.mentions) × AreDegraded p b k c.versions c.loads
degraded_by p b device supply lines c choice =
    (choice.is.k, choice.is.within, record { versions_are = choice.versions ∙ choice.is.is.versions; loads_are = choice.loads ∙ choice.is.is.loads })

-- ---- an event's place in the tables

load_at : (tables : List (List Load)) (front : List ℕ) (n e : ℕ) → e < n → get_or (loads_of tables front n) e no_load ≡ chosen.load_of tables front e
unfolding loads_of
load_at tables front zero e lt = absurd (omega arith)
load_at tables front (suc n) e lt =
    let long = loads_length tables front n in
    elim (cases_lt e n) [
      | inl sooner ↦ get_or-append (loads_of tables front n) (chosen.load_of tables front n ∷ []) no_load e (omega arith) ∙ load_at tables front n e sooner
      | inr last ↦
          let here : e ≡ length (loads_of tables front n) = omega arith in
          let same : n ≡ e = omega arith in
          ap (λ i. get_or (loads_of tables front n ++ chosen.load_of tables front n ∷ []) i no_load) here
          ∙ get_or-append_seam (loads_of tables front n) (chosen.load_of tables front n) [] no_load
          ∙ ap (chosen.load_of tables front) same
    ]

-- the table of an event
record TableAt (headers : List Event) (jobs : List (List Job)) (e : ℕ) : Type 0 where
  header : Event
  header_is : slice_get headers e ≡ Some header
  table : slice_index_or (tables_of headers jobs) e [] ≡ map (load_of header) (unwrap_or (slice_get jobs e) [])

table_at : (headers : List Event) (jobs : List (List Job)) (e : ℕ) → e < length (tables_of headers jobs) → TableAt headers jobs e
table_at [] jobs e lt = absurd (omega arith)
table_at (h ∷ headers) [] e lt = absurd (omega arith)
table_at (h ∷ headers) (versions ∷ jobs) zero lt = record { header = h; header_is = refl; table = refl }
table_at (h ∷ headers) (versions ∷ jobs) (suc e) lt =
    let rest = table_at headers jobs e (omega arith) in
    record { header = rest.header; header_is = rest.header_is; table = rest.table }

job_in : (f : Job → Load) (jobs : List Job) (v : ℕ) → v < length jobs → (job : Job) × (slice_get jobs v ≡ Some job) × (slice_index_or (map f jobs) v no_load ≡ f job)
job_in f [] v lt = absurd (omega arith)
job_in f (job ∷ jobs) zero lt = (job, refl, refl)
job_in f (job ∷ jobs) (suc v) lt = job_in f jobs v (omega arith)

-- there are as many jobs as versions
as_many : (jobs : List (List Job)) (events : List (List ℕ)) (e : ℕ) → map length jobs ≡ map length events → e < length events → length (unwrap_or (slice_get jobs e) []) ≡ length (unwrap_or (slice_get events e) [])
as_many jobs [] e same lt = absurd (omega arith)
as_many [] (vs ∷ events) e same lt = absurd (cc)
as_many (js ∷ jobs) (vs ∷ events) zero same lt = cc
as_many (js ∷ jobs) (vs ∷ events) (suc e) same lt = let rest : map length jobs ≡ map length events = cc in as_many jobs events e rest (omega arith)

module _ (have : HaveHeaders) (p : Checked) (b : BoundsValue) (k : ℕ) (versions : List ℕ) (loads : List Load) (checked : IsChecked p) (bounds : HasBounds p b) (after : AreDegraded p b k versions loads) where
  pub its_load : (e : ℕ) (load : Load) → slice_get loads e ≡ Some load → IsLoadOf p b versions e load
  its_load e load is =
      let tables : List (List Load) = tables_of p.headers b.jobs in
      let front : List ℕ = take k p.mentions in
      let count = tables_count have p b.jobs checked bounds in
      let all : length loads ≡ length (tables_of p.headers b.jobs) = ap (λ (ls : List Load). length ls) after.loads_are ∙ loads_length tables front (length tables) in
      let within = slice_get_within loads e load is in
      let lt : e < length (tables_of p.headers b.jobs) = omega (arith, within, all) in
      let there : e < length p.events = omega (arith, lt, count) in
      let t = table_at p.headers b.jobs e lt in
      let enough = degraded p.mentions 0 p.events e e (omega arith) checked.degrades there in
      let few : version_of front e ≤ version_of p.mentions e = sum_by-take-le (λ m. cond (m == e) 1 0) p.mentions k in
      let job = job_in (load_of t.header) (unwrap_or (slice_get b.jobs e) []) (version_of front e) (omega (arith, few, enough, as_many b.jobs p.events e bounds there)) in
      let version : slice_index versions e ≡ version_of front e = ap (λ (vs : List ℕ). slice_index vs e) after.versions_are ∙ version_at front (length tables) e lt in
      let own : load ≡ chosen.load_of tables front e =
      sym (get_or_from_slice_get loads e load no_load is) ∙ ap (λ (ls : List Load). get_or ls e no_load) after.loads_are ∙ load_at tables front (length tables) e lt in
      record {
        header = t.header;
        header_is = t.header_is;
        job = job.0;
        job_is = ap (λ (v : ℕ). job_at b e v) version ∙ job.1;
        load_is = own ∙ ap (λ (ls : List Load). slice_index_or ls (version_of front e) no_load) t.table ∙ job.2;
      }

-- ---- demand and supply repeat

event_at : (headers : List Event) (events : List (List ℕ)) (e : ℕ) (header : Event) → EachEventIs headers events → slice_get headers e ≡ Some header → (vs : List ℕ) × EventIs header vs
event_at [] events e header each is = absurd (cc)
event_at (h ∷ headers) [] e header each is = absurd each
event_at (h ∷ headers) (vs ∷ events) zero header each is = let same : h ≡ header = cc in (vs, subst (λ (x : Event). EventIs x vs) same each.0)
event_at (h ∷ headers) (vs ∷ events) (suc e) header each is = event_at headers events e header each.1 is

abbrev pub LoadsLaw : Type 0
LoadsLaw = (p : Checked) (b : BoundsValue) (k : ℕ) (versions : List ℕ) (loads : List Load) → IsChecked p → HasBounds p b → AreDegraded p b k versions loads →
    (event : ℕ) (load : Load) → slice_get loads event ≡ Some load → IsLoadOf p b versions event load

-- the spacing and the deadline of a load are those of an event
record IsAsked (load : Load) : Type 0 where
  spacing : 0 < load.spacing
  in_time : load.deadline ≤ load.spacing

asked : (p : Checked) (b : BoundsValue) (versions : List ℕ) (e : ℕ) (load : Load) → IsChecked p → IsLoadOf p b versions e load → IsAsked load
asked p b versions e load checked is =
    let event = event_at p.headers p.events e is.header checked.declares is.header_is in
    let due = event.1.due in
    let in_time = event.1.in_time in
    subst IsAsked (sym is.load_is) (record { spacing = omega (arith, due, in_time); in_time = in_time })

pub repeats : LoadsLaw → (p : Checked) (b : BoundsValue) (device : Device) (supply : Supply) (lines : ℕ) (c : Chosen) → IsChecked p → HasBounds p b → IsChoice p b device supply lines c → 0 < supply.p
    → CanRepeat (base_of b device supply) c.loads
repeats law p b device supply lines c checked bounds choice some =
    let after = degraded_by p b device supply lines c choice in
    let each : (e : ℕ) → e < length c.loads → IsAsked (get_or c.loads e no_load) =
    λ e lt. asked p b c.versions e (get_or c.loads e no_load) checked
    (law p b after.0 c.versions c.loads checked bounds after.2 e (get_or c.loads e no_load) (slice_get-get_or c.loads e no_load lt)) in
    record {
      p = some;
      spacings = All-from_get_or (λ x. 0 < x.spacing) c.loads no_load (λ e lt. (each e lt).spacing);
      within = All-from_get_or (λ x. x.deadline ≤ x.spacing) c.loads no_load (λ e lt. (each e lt).in_time);
    }
