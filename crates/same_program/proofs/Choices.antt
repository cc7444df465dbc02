-- There is one choice of versions, or one reason for none.
use Rattle.std.proofs.Common.{◌≡◌, ℕ, zero, suc, ◌+◌, ◌≤◌, ◌<◌, List, [], ◌∷◌, length, take, drop, All, inl, inr, refl, ap, sym, ◌∙◌, subst, arith}
use Rattle.std.specs.Prelude.{◌==◌, ◌≢◌, cond, map, slice_get, slice_index_or, Some}
use Rattle.std.specs.Int.{◌∣◌}
use Rattle.std.proofs.lemmas.Bool.{cases_lt}
use Rattle.std.proofs.lemmas.List.{length-map, map-append, take-take}
use Rattle.std.proofs.lemmas.List.Elements.{All-take}
use Rattle.std.proofs.lemmas.List.Sums.{sum_by-take-le}
use Rattle.cat_program.specs.declared.headers.Event.{Event}
use Rattle.cat_program.specs.Declares.{spacing_of, EachEventIs, EachDegrades}
use Rattle.cat_program.specs.Checked.{Checked, IsChecked}
use Rattle.nv_memory.specs.declared.device.Device.{Device}
use Rattle.cost_bounds.specs.declared.job.Job.{Job}
use Rattle.cost_bounds.specs.BoundsValue.{BoundsValue}
use Rattle.demand_core.specs.declared.Load.{Load}
use Rattle.demand_core.specs.declared.Base.{Base}
use Rattle.demand_core.specs.Demand.{IsWindow, IsFeasible, reserve}
use Rattle.demand_core.specs.Multiples.{IsTooLong}
use Rattle.feasibility.specs.declared.choose.Vector.{Vector}
use Rattle.feasibility.specs.declared.choose.ChooseFault.{ChooseFault}
use Rattle.feasibility.specs.declared.choose.ChooseFault.TheVariants.{WindowTooLong, Rejected, NoMemory}
use Rattle.feasibility.specs.Chosen as chosen
use Rattle.feasibility.specs.Chosen.{no_load, version_of, versions_of, loads_of, vector_loads, IsVector, IsChosen, IsRejected}
use Rattle.feasibility.specs.Outcomes.{IsFault}
use Rattle.feasibility.specs.Verdicts.{IsVerdict}
use Rattle.degradation.specs.declared.chosen.Chosen.{Chosen}
use Rattle.degradation.specs.declared.supply.Supply.{Supply}
use Rattle.degradation.specs.Choice.{load_of, tables_of, base_of, numbers_of, HasBounds, IsChoice, IsNoChoice}
use Rattle.same_program.specs.Setting.{AreSettings}
use Rattle.same_program.proofs.Bounds.{one_bounds}
use Rattle.same_program.proofs.Verdicts.{spacings, divide_as, one_window, one_verdict}

-- ---- all versions of an event have its spacing

record IsRow (count s : ℕ) (row : List Load) : Type 0 where
  enough : count < length row
  spacing : (v : ℕ) → v < length row → (slice_index_or row v no_load).spacing ≡ s

spacing_at : (h : Event) (jobs : List Job) (v : ℕ) → v < length (map (load_of h) jobs) → (slice_index_or (map (load_of h) jobs) v no_load).spacing ≡ spacing_of h.timing
spacing_at h [] v lt = absurd (omega arith)
spacing_at h (job ∷ jobs) zero lt = refl
spacing_at h (job ∷ jobs) (suc v) lt = spacing_at h jobs v (omega arith)

row_at : (ms : List ℕ) (k : ℕ) (hs : List Event) (es : List (List ℕ)) (jobs : List (List Job)) (e n : ℕ) → n ≡ k + e → EachEventIs hs es → EachDegrades ms k es
    → map length jobs ≡ map length es → e < length (tables_of hs jobs) → (s : ℕ) × IsRow (version_of ms n) s (slice_index_or (tables_of hs jobs) e [])
row_at ms k [] es jobs e n is each degrades same lt = absurd (omega arith)
row_at ms k (h ∷ hs) es [] e n is each degrades same lt = absurd (omega arith)
row_at ms k (h ∷ hs) [] (versions ∷ jobs) e n is each degrades same lt = absurd each
row_at ms k (h ∷ hs) (vs ∷ es) (versions ∷ jobs) zero n is each degrades same lt =
    let this : n ≡ k = omega arith in
    let long : length versions ≡ length vs = ap (λ l. slice_index_or l 0 0) same in
    (spacing_of h.timing, record { enough = rw this (omega (arith, length-map versions (load_of h), degrades.0)); spacing = spacing_at h versions })
row_at ms k (h ∷ hs) (vs ∷ es) (versions ∷ jobs) (suc e) n is each degrades same lt =
    row_at ms (k + 1) hs es jobs e n (omega arith) each.1 degrades.1 (ap (drop 1) same) (omega arith)

-- the first spacing with which the window is too long
not_before : (p : ℕ) (loads : List Load) (limit s t : ℕ) (first : IsTooLong p loads limit s) (second : IsTooLong p loads limit t) → first.index < second.index → ⊥
not_before p loads limit s t first second less =
    let fewer : All (λ (x : Load). x.spacing ∣ second.before) (take (first.index + 1) (take second.index loads)) = All-take (λ (x : Load). x.spacing ∣ second.before) (first.index + 1) (take second.index loads) second.before_is.of_spacings in
    let same : take (first.index + 1) (take second.index loads) ≡ take (first.index + 1) loads = take-take (first.index + 1) second.index loads (omega arith) in
    let over = first.exceeds second.before (second.before_is.positive, second.before_is.of_p, subst (All (λ (x : Load). x.spacing ∣ second.before)) same fewer) in
    let short = second.before_short in
    absurd (omega arith)

one_spacing : (p : ℕ) (loads : List Load) (limit s t : ℕ) → IsTooLong p loads limit s → IsTooLong p loads limit t → s ≡ t
one_spacing p loads limit s t first second =
    let at : first.index ≡ second.index =
    elim (cases_lt first.index second.index) [
      | inl less ↦ absurd (not_before p loads limit s t first second less)
      | inr le ↦
          elim (cases_lt second.index first.index) [
            | inl more ↦ absurd (not_before p loads limit t s second first more)
            | inr ge ↦ omega arith
          ]
    ] in
    let load : first.load ≡ second.load = some_same first.load second.load (sym first.is ∙ ap (slice_get loads) at ∙ second.is) in
    first.spacing_is ∙ ap (λ (x : Load). x.spacing) load ∙ sym second.spacing_is
  where
    some_same : (x y : Load) → Some x ≡ Some y → x ≡ y
    some_same x y e = (cc)

-- tables in which all versions of an event have one spacing, and each has a version for each of its mentions
record AreRows (tables : List (List Load)) (order : List ℕ) : Type 0 where
  at : (e : ℕ) → e < length tables → (s : ℕ) × IsRow (version_of order e) s (slice_index_or tables e [])

are_rows : (p : Checked) (b : BoundsValue) → IsChecked p → HasBounds p b → AreRows (tables_of p.headers b.jobs) p.mentions
are_rows p b checked same =
    record { at = λ e lt. row_at p.mentions 0 p.headers p.events b.jobs e e (omega arith) checked.declares checked.degrades same lt }

module _ (tables : List (List Load)) (order : List ℕ) (rows : AreRows tables order) where
  load_spacing : (k e : ℕ) (lt : e < length tables) → (chosen.load_of tables (take k order) e).spacing ≡ (rows.at e lt).0
  load_spacing k e lt =
      let fewer = sum_by-take-le (λ m. cond (m == e) 1 0) order k in
      (rows.at e lt).1.spacing (version_of (take k order) e) (omega (arith, (rows.at e lt).1.enough))

  spacings_front : (j k n : ℕ) → n ≤ length tables → spacings (loads_of tables (take j order) n) ≡ spacings (loads_of tables (take k order) n)
  unfolding loads_of
  spacings_front j k zero le = refl
  spacings_front j k (suc n) le =
      let lt : n < length tables = omega arith in
      let last : (chosen.load_of tables (take j order) n).spacing ≡ (chosen.load_of tables (take k order) n).spacing = load_spacing j n lt ∙ sym (load_spacing k n lt) in
      map-append (λ (x : Load). x.spacing) (loads_of tables (take j order) n) (chosen.load_of tables (take j order) n ∷ [])
      ∙ cc (spacings_front j k n (omega arith), last)
      ∙ sym (map-append (λ (x : Load). x.spacing) (loads_of tables (take k order) n) (chosen.load_of tables (take k order) n ∷ []))

  spacings_same : (j k : ℕ) → spacings (vector_loads tables order j) ≡ spacings (vector_loads tables order k)
  spacings_same j k = spacings_front j k (length tables) (omega arith)

  -- ---- one vector

  window_same : (p j k v w : ℕ) → IsWindow p (vector_loads tables order j) v → IsWindow p (vector_loads tables order k) w → v ≡ w
  window_same p j k v w first second = one_window p (vector_loads tables order j) (vector_loads tables order k) v w (spacings_same j k) first second

  -- the window of a vector of this front
  window_of : (base : Base) (k : ℕ) (v : Vector) → IsVector base tables (take k order) v → IsWindow base.p (vector_loads tables order k) v.window
  window_of base k v is = subst (λ l. IsWindow base.p l v.window) is.loads is.window

  feasible_in : (base : Base) (j k : ℕ) (v : Vector) (w : ℕ) → IsVector base tables (take j order) v → IsWindow base.p (vector_loads tables order k) w → IsFeasible base (vector_loads tables order j) w
  feasible_in base j k v w is other =
      subst (λ l. IsFeasible base l w) is.loads
      (subst (λ n. IsFeasible base v.loads n) (window_same base.p j k v.window w (window_of base j v is) other) is.feasible)

  vector_same : (base : Base) (front : List ℕ) (v w : Vector) → IsVector base tables front v → IsVector base tables front w → v.window ≡ w.window → v ≡ w
  vector_same base front v w first second window =
      let versions : v.versions ≡ w.versions = first.versions ∙ sym second.versions in
      let loads : v.loads ≡ w.loads = first.loads ∙ sym second.loads in
      let kept : v.reserve ≡ w.reserve = first.reserve_is ∙ ap (λ l. reserve base l v.window) loads ∙ ap (reserve base w.loads) window ∙ sym second.reserve_is in
      by versions loads window kept
    where
      by : v.versions ≡ w.versions → v.loads ≡ w.loads → v.window ≡ w.window → v.reserve ≡ w.reserve → v ≡ w
      by a b c d =
          ap (λ x. record { versions = x; loads = v.loads; window = v.window; reserve = v.reserve }) a
          ∙ ap (λ x. record { versions = w.versions; loads = x; window = v.window; reserve = v.reserve }) b
          ∙ ap (λ x. record { versions = w.versions; loads = w.loads; window = x; reserve = v.reserve }) c
          ∙ ap (λ x. record { versions = w.versions; loads = w.loads; window = w.window; reserve = x }) d

  no_less : (base : Base) (v w : Vector) (first : IsChosen base tables order v) (second : IsChosen base tables order w) → first.k < second.k → ⊥
  no_less base v w first second less =
      second.least first.k less (feasible_in base first.k second.k v w.window first.is (window_of base second.k w second.is))

  one_vector : (base : Base) (v w : Vector) → IsChosen base tables order v → IsChosen base tables order w → v ≡ w
  one_vector base v w first second =
      let window = window_same base.p first.k second.k v.window w.window (window_of base first.k v first.is) (window_of base second.k w second.is) in
      let same : first.k ≡ second.k =
      elim (cases_lt first.k second.k) [
        | inl less ↦ absurd (no_less base v w first second less)
        | inr le ↦
            elim (cases_lt second.k first.k) [
              | inl more ↦ absurd (no_less base w v second first more)
              | inr ge ↦ omega arith
            ]
      ] in
      vector_same base (take second.k order) v w (subst (λ k. IsVector base tables (take k order) v) same first.is) second.is window

  -- ---- one reason

  -- where a spacing makes the window too long, no vector has one
  no_window : (base : Base) (spacing k w : ℕ) → IsTooLong base.p (vector_loads tables order 0) 1000000 spacing → IsWindow base.p (vector_loads tables order k) w → w ≤ 1000000 → ⊥
  no_window base spacing k w long is short =
      let all = divide_as w (vector_loads tables order k) (vector_loads tables order 0) (spacings_same k 0) is.of_spacings in
      let over = long.exceeds w (is.positive, is.of_p, All-take (λ (x : Load). x.spacing ∣ w) (long.index + 1) (vector_loads tables order 0) all) in
      absurd (omega arith)

  one_fault : (base : Base) (f g : ChooseFault) → IsFault base tables order f → IsFault base tables order g → f ≢ NoMemory → g ≢ NoMemory → f ≡ g
  one_fault base (WindowTooLong s) (WindowTooLong t) first second some more = ap WindowTooLong (one_spacing base.p (vector_loads tables order 0) 1000000 s t first second)
  one_fault base (WindowTooLong s) (Rejected v) first second some more = absurd (no_window base s (length order) second.window first second.is second.short)
  one_fault base (Rejected v) (WindowTooLong s) first second some more = absurd (no_window base s (length order) first.window second first.is first.short)
  one_fault base (Rejected v) (Rejected w) first second some more =
      let window = window_same base.p (length order) (length order) first.window second.window first.is second.is in
      ap Rejected (one_verdict base (vector_loads tables order (length order)) second.window v w
      (subst (λ n. IsVerdict base (vector_loads tables order (length order)) n v) window first.gives) second.gives)
  one_fault base NoMemory g first second some more = absurd (some refl)
  one_fault base f NoMemory first second some more = absurd (more refl)

  -- where there is a choice there is no reason for none
  no_fault : (base : Base) (v : Vector) (f : ChooseFault) → IsChosen base tables order v → IsFault base tables order f → f ≡ NoMemory
  no_fault base v (WindowTooLong s) is fault = absurd (no_window base s is.k v.window fault (window_of base is.k v is.is) is.is.short)
  no_fault base v (Rejected w) is fault =
      absurd (fault.none is.k is.within (feasible_in base is.k (length order) v fault.window is.is fault.is))
  no_fault base v NoMemory is fault = refl

-- ---- the choice of a program on a device

chosen_same : (x y : Chosen) → x.versions ≡ y.versions → x.loads ≡ y.loads → x.numbers ≡ y.numbers → x ≡ y
chosen_same x y a b c =
    ap (λ v. record { versions = v; loads = x.loads; numbers = x.numbers }) a
    ∙ ap (λ v. record { versions = y.versions; loads = v; numbers = x.numbers }) b
    ∙ ap (λ v. record { versions = y.versions; loads = y.loads; numbers = v }) c

module _ (p q : Checked) (d : Device) (supply : Supply) (lines : ℕ) (b c : BoundsValue) (are : AreSettings p q d lines b c) where
  bounds : b ≡ c
  bounds = one_bounds p q d lines are.same b c are.first are.second

  base_same : base_of b d supply ≡ base_of c d supply
  base_same = ap (λ (x : BoundsValue). base_of x d supply) bounds

  tables_same : tables_of p.headers b.jobs ≡ tables_of q.headers c.jobs
  tables_same = ap (λ (x : BoundsValue). tables_of p.headers x.jobs) bounds ∙ ap (λ h. tables_of h c.jobs) are.same.headers

  numbers_same : (v : Vector) → numbers_of b d lines v ≡ numbers_of c d lines v
  numbers_same v = ap (λ (x : BoundsValue). numbers_of x d lines v) bounds

  rows : AreRows (tables_of p.headers b.jobs) p.mentions
  rows = are_rows p b are.checked are.first.versions

  -- what the other program's is, is this one's
  back : (P : Base → List (List Load) → List ℕ → Type 0) → P (base_of c d supply) (tables_of q.headers c.jobs) q.mentions → P (base_of b d supply) (tables_of p.headers b.jobs) p.mentions
  back P h =
      subst (λ x. P x (tables_of p.headers b.jobs) p.mentions) (sym base_same)
      (subst (λ t. P (base_of c d supply) t p.mentions) (sym tables_same)
      (subst (λ m. P (base_of c d supply) (tables_of q.headers c.jobs) m) (sym are.same.mentions) h))

  pub one_choice : (x y : Chosen) → IsChoice p b d supply lines x → IsChoice q c d supply lines y → x ≡ y
  one_choice x y first second =
      let vector : first.vector ≡ second.vector =
      one_vector (tables_of p.headers b.jobs) p.mentions rows (base_of b d supply) first.vector second.vector first.is
      (back (λ base tables order. IsChosen base tables order second.vector) second.is) in
      chosen_same x y
      (first.versions ∙ ap (λ (v : Vector). v.versions) vector ∙ sym second.versions)
      (first.loads ∙ ap (λ (v : Vector). v.loads) vector ∙ sym second.loads)
      (first.numbers ∙ numbers_same first.vector ∙ ap (numbers_of c d lines) vector ∙ sym second.numbers)

  pub one_reason : (f g : ChooseFault) → IsNoChoice p b d supply f → IsNoChoice q c d supply g → f ≢ NoMemory → g ≢ NoMemory → f ≡ g
  one_reason f g first second =
      one_fault (tables_of p.headers b.jobs) p.mentions rows (base_of b d supply) f g first (back (λ base tables order. IsFault base tables order g) second)

  pub no_reason : (x : Chosen) (f : ChooseFault) → IsChoice p b d supply lines x → IsNoChoice q c d supply f → f ≡ NoMemory
  no_reason x f first second =
      no_fault (tables_of p.headers b.jobs) p.mentions rows (base_of b d supply) first.vector f first.is (back (λ base tables order. IsFault base tables order f) second)
