-- Which versions the events run in.
use Rattle.std.specs.Prelude.{◌≡◌, ℕ, suc, zero, ◌<◌, ◌≤◌, ◌==◌, List, [], ◌∷◌, ◌++◌, length, take, slice_index_or, count_by}
use Rattle.demand_core.specs.declared.Load.{Load}
use Rattle.demand_core.specs.declared.Base.{Base}
use Rattle.feasibility.specs.declared.decide.Verdict.{Verdict}
use Rattle.feasibility.specs.declared.choose.Vector.{Vector}
use Rattle.demand_core.specs.Demand.{reserve, IsWindow, IsFeasible}
use Rattle.feasibility.specs.Verdicts.{IsVerdict}

-- what stands past the end of a table
abbrev pub no_load : Load
no_load = record { spacing = 0; deadline = 0; units = 0; ticks = 0 }

-- the version of an event: how often it is mentioned in this front of the degrade order
abbrev pub version_of : List ℕ → ℕ → ℕ
version_of front event = count_by (λ m. m == event) front

-- the load of an event in that version; a table has the loads of one event, version by version
abbrev pub load_of : List (List Load) → List ℕ → ℕ → Load
load_of tables front event = slice_index_or (slice_index_or tables event []) (version_of front event) no_load

-- the versions, and the loads in them, of the first n events
unfoldable pub versions_of : List ℕ → ℕ → List ℕ
versions_of front zero = []
versions_of front (suc event) = versions_of front event ++ version_of front event ∷ []

unfoldable pub loads_of : List (List Load) → List ℕ → ℕ → List Load
loads_of tables front zero = []
loads_of tables front (suc event) = loads_of tables front event ++ load_of tables front event ∷ []

-- the loads that vector k gives: each event in the version of its mentions among the first k
abbrev pub vector_loads : List (List Load) → List ℕ → ℕ → List Load
vector_loads tables order k = loads_of tables (take k order) (length tables)

-- each event has a version for each of its mentions, and its versions differ in what they cost alone
pub record AreTables (tables : List (List Load)) (order : List ℕ) : Type 0 where
  pub few : length tables ≤ 16
  pub short : length order < 256
  pub enough : (event : ℕ) → event < length tables → version_of order event < length (slice_index_or tables event [])
  pub spacing : (event version : ℕ) → event < length tables → version < length (slice_index_or tables event []) →
      0 < (slice_index_or (slice_index_or tables event []) version no_load).spacing
  pub deadline : (event version : ℕ) → event < length tables → version < length (slice_index_or tables event []) →
      (slice_index_or (slice_index_or tables event []) version no_load).deadline ≤ (slice_index_or (slice_index_or tables event []) version no_load).spacing
  pub same : (event version : ℕ) → event < length tables → version < length (slice_index_or tables event []) →
      (slice_index_or (slice_index_or tables event []) version no_load).spacing ≡ (slice_index_or (slice_index_or tables event []) 0 no_load).spacing

-- the versions and loads after a front of the order, which are feasible
pub record IsVector (base : Base) (tables : List (List Load)) (front : List ℕ) (vector : Vector) : Type 0 where
  pub versions : vector.versions ≡ versions_of front (length tables)
  pub loads : vector.loads ≡ loads_of tables front (length tables)
  pub window : IsWindow base.p vector.loads vector.window
  pub short : vector.window ≤ 1000000
  pub reserve_is : vector.reserve ≡ reserve base vector.loads vector.window
  pub feasible : IsFeasible base vector.loads vector.window

-- the feasible vector of least k
pub record IsChosen (base : Base) (tables : List (List Load)) (order : List ℕ) (vector : Vector) : Type 0 where
  pub k : ℕ
  pub within : k ≤ length order
  pub is : IsVector base tables (take k order) vector
  pub least : (j : ℕ) → j < k → IsFeasible base (vector_loads tables order j) vector.window → ⊥

-- no vector is feasible, and this is the verdict on the last one
pub record IsRejected (base : Base) (tables : List (List Load)) (order : List ℕ) (verdict : Verdict) : Type 0 where
  pub window : ℕ
  pub is : IsWindow base.p (vector_loads tables order (length order)) window
  pub short : window ≤ 1000000
  pub gives : IsVerdict base (vector_loads tables order (length order)) window verdict
  pub none : (k : ℕ) → k ≤ length order → IsFeasible base (vector_loads tables order k) window → ⊥
