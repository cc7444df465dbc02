-- A program's events with none degraded.
use Rattle.std.proofs.Common.{◌≡◌, ℕ, zero, suc, ◌+◌, ◌<◌, ◌≤◌, List, [], ◌∷◌, ◌++◌, length, take, map, Option, Some, refl, sym, ap, subst, ◌∙◌, length-append, arith}
use Rattle.std.specs.Prelude.{slice_get, slice_index_or, unwrap_or}
use Rattle.std.proofs.lemmas.List.{length-map}
use Rattle.cat_program.specs.declared.headers.Event.{Event}
use Rattle.cat_program.specs.Checked.{Checked, IsChecked}
use Rattle.cost_bounds.specs.BoundsValue.{BoundsValue, job_at}
use Rattle.cost_bounds.specs.declared.job.Job.{Job}
use Rattle.demand_core.specs.declared.Load.{Load}
use Rattle.demand_core.specs.declared.Base.{Base}
use Rattle.demand_core.specs.Demand.{reserve, IsWindow, IsFeasible}
use Rattle.feasibility.specs.declared.choose.Vector.{Vector}
use Rattle.feasibility.specs.declared.decide.Verdict.{Verdict}
use Rattle.feasibility.specs.Chosen as chosen
use Rattle.feasibility.specs.Chosen.{no_load, loads_of, versions_of}
use Rattle.nv_memory.specs.declared.device.Device.{Device}
use Rattle.degradation.specs.declared.chosen.Chosen.{Chosen}
use Rattle.degradation.specs.Choice.{HasBounds, base_of, load_of, numbers_of, tables_of}
use Rattle.cn_plan.specs.Harvest.{with_harvest, IsLeastHarvest}
use Rattle.cn_plan.specs.Least.{IsFound}
use Rattle.cn_plan.specs.Whole.{whole_loads, device_base, supply_with, IsWholeWindow, IsWholeChoice}

-- each event has a header
abbrev pub HaveHeaders : Type 0
HaveHeaders = (p : Checked) → IsChecked p → length p.headers ≡ length p.events

-- ---- how many there are

tables_length : (hs : List Event) (jobs : List (List Job)) → length hs ≡ length jobs → length (tables_of hs jobs) ≡ length hs
tables_length [] jobs same = refl
tables_length (h ∷ hs) [] same = absurd (omega arith)
tables_length (h ∷ hs) (versions ∷ jobs) same = ap suc (tables_length hs jobs (omega arith))

pub jobs_count : (p : Checked) (b : BoundsValue) → HasBounds p b → length b.jobs ≡ length p.events
jobs_count p b same = sym (length-map b.jobs length) ∙ ap length same ∙ length-map p.events length

pub tables_count : HaveHeaders → (p : Checked) (b : BoundsValue) → IsChecked p → HasBounds p b → length (tables_of p.headers b.jobs) ≡ length p.events
tables_count have p b checked same =
    let headers = have p checked in
    tables_length p.headers b.jobs (headers ∙ sym (jobs_count p b same)) ∙ headers

pub loads_length : (tables : List (List Load)) (front : List ℕ) (n : ℕ) → length (loads_of tables front n) ≡ n
unfolding loads_of
loads_length tables front zero = refl
loads_length tables front (suc n) = omega (arith, length-append (loads_of tables front n) (chosen.load_of tables front n ∷ []), loads_length tables front n)

-- each version has a job
pub has_job : (jobs : List (List Job)) (events : List (List ℕ)) (e : ℕ) → map length jobs ≡ map length events → e < length events → 0 < length (unwrap_or (slice_get events e) [])
    → 0 < length (unwrap_or (slice_get jobs e) [])
has_job jobs [] e same lt some = absurd (omega arith)
has_job [] (vs ∷ events) e same lt some = absurd (cc)
has_job (js ∷ jobs) (vs ∷ events) zero same lt some = let equal : length js ≡ length vs = cc in omega (arith, equal)
has_job (js ∷ jobs) (vs ∷ events) (suc e) same lt some = let rest : map length jobs ≡ map length events = cc in has_job jobs events e rest (omega arith) some

-- ---- one more

pub loads_none : (tables : List (List Load)) (front : List ℕ) → loads_of tables front 0 ≡ []
unfolding loads_of
loads_none tables front = refl

pub versions_none : versions_of [] 0 ≡ []
unfolding versions_of
versions_none = refl

-- what an event asks for in its version 0
load_at : (hs : List Event) (jobs : List (List Job)) (e : ℕ) (h : Event) (job : Job) → slice_get hs e ≡ Some h → slice_get (unwrap_or (slice_get jobs e) []) 0 ≡ Some job
    → slice_index_or (slice_index_or (tables_of hs jobs) e []) 0 no_load ≡ load_of h job
load_at [] jobs e h job header is = absurd (cc)
load_at (x ∷ hs) [] zero h job header is = absurd (cc)
load_at (x ∷ hs) [] (suc e) h job header is = absurd (cc)
load_at (x ∷ hs) ([] ∷ jobs) zero h job header is = absurd (cc)
load_at (x ∷ hs) ((j ∷ js) ∷ jobs) zero h job header is =
    let same : x ≡ h = cc in
    let equal : j ≡ job = cc in
    ap (λ (v : Event). load_of v j) same ∙ ap (load_of h) equal
load_at (x ∷ hs) (js ∷ jobs) (suc e) h job header is = load_at hs jobs e h job header is

pub loads_more : (p : Checked) (b : BoundsValue) (e : ℕ) (h : Event) (job : Job) → slice_get p.headers e ≡ Some h → job_at b e 0 ≡ Some job
    → loads_of (tables_of p.headers b.jobs) (take 0 p.mentions) (e + 1) ≡ loads_of (tables_of p.headers b.jobs) (take 0 p.mentions) e ++ load_of h job ∷ []
unfolding loads_of
loads_more p b e h job header is =
    let next : e + 1 ≡ suc e = omega arith in
    rw next (ap (λ (x : Load). loads_of (tables_of p.headers b.jobs) [] e ++ x ∷ []) (load_at p.headers b.jobs e h job header is))

pub versions_more : (e : ℕ) → versions_of [] (e + 1) ≡ versions_of [] e ++ 0 ∷ []
unfolding versions_of
versions_more e =
    let next : e + 1 ≡ suc e = omega arith in
    rw next refl

-- ---- the choice

-- the choice of a vector that takes up no mention
whole_choice : (p : Checked) (b : BoundsValue) (device : Device) (q lines : ℕ) (vector : Vector) (picked : Chosen)
    → vector.versions ≡ versions_of [] (length (tables_of p.headers b.jobs)) → vector.loads ≡ whole_loads p b → IsWholeWindow p b device vector.window
    → vector.reserve ≡ reserve (base_of b device (supply_with device q)) (whole_loads p b) vector.window
    → IsFeasible (base_of b device (supply_with device q)) (whole_loads p b) vector.window
    → picked.versions ≡ vector.versions → picked.loads ≡ vector.loads → picked.numbers ≡ numbers_of b device lines vector
    → IsWholeChoice p b device q lines picked
whole_choice p b device q lines vector picked versions loads window kept feasible same_versions same_loads numbers =
    record {
      choice = record {
        vector = vector;
        is = record {
          k = 0;
          within = omega arith;
          is = record {
            versions = versions;
            loads = loads;
            window = subst (λ l. IsWindow device.p l vector.window) (sym loads) window.is;
            short = window.short;
            reserve_is = subst (λ l. vector.reserve ≡ reserve (base_of b device (supply_with device q)) l vector.window) (sym loads) kept;
            feasible = subst (λ l. IsFeasible (base_of b device (supply_with device q)) l vector.window) (sym loads) feasible;
          };
          least = λ j less. absurd (omega arith);
        };
        versions = same_versions;
        loads = same_loads;
        numbers = numbers;
      };
      whole = refl;
    }

-- what is found for a set that is read as the whole events on the device
pub found_with : (p : Checked) (b : BoundsValue) (device : Device) (lines q : ℕ) (base with : Base) (loads also : List Load) (below : Option Verdict) (vector : Vector) (picked : Chosen)
    → base ≡ device_base b device → with ≡ with_harvest base q → loads ≡ whole_loads p b → also ≡ whole_loads p b
    → IsLeastHarvest base loads vector.window q below → IsWindow device.p loads vector.window → vector.window ≤ 1000000
    → vector.versions ≡ versions_of [] (length (tables_of p.headers b.jobs)) → vector.loads ≡ whole_loads p b → vector.reserve ≡ reserve with also vector.window
    → picked.versions ≡ vector.versions → picked.loads ≡ vector.loads → picked.numbers ≡ numbers_of b device lines vector
    → IsFound p b device lines q picked below
found_with p b device lines q base with loads also below vector picked base_is with_is loads_are also_are least window short versions held kept same_versions same_loads numbers =
    let is_window : IsWholeWindow p b device vector.window = record { is = subst (λ l. IsWindow device.p l vector.window) loads_are window; short = short } in
    let is_least : IsLeastHarvest (device_base b device) (whole_loads p b) vector.window q below =
    subst (λ x. IsLeastHarvest x (whole_loads p b) vector.window q below) base_is (subst (λ l. IsLeastHarvest base l vector.window q below) loads_are least) in
    let harvest : with ≡ base_of b device (supply_with device q) = with_is ∙ ap (λ x. with_harvest x q) base_is in
    record {
      window = vector.window;
      is_window = is_window;
      least = is_least;
      is = whole_choice p b device q lines vector picked versions held is_window
          (kept ∙ ap (λ x. reserve x also vector.window) harvest ∙ ap (λ l. reserve (base_of b device (supply_with device q)) l vector.window) also_are)
          is_least.enough same_versions same_loads numbers;
    }
