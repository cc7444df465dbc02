-- The loads of a vector, event by event.
use Rattle.std.proofs.Common.{◌≡◌, ℕ, suc, zero, ◌+◌, ◌<◌, ◌≤◌, List, [], ◌∷◌, ◌++◌, length, take, get_or, Bool, cond, ◌==◌, inl, inr, refl, sym, subst, ap, ◌∙◌, arith, All, count_by, length-append}
use Rattle.std.specs.Int.{◌∣◌}
use Rattle.std.proofs.Math.ListN.{get_or-append}
use Rattle.std.proofs.Math.Seq.{get_or-append_seam}
use Rattle.std.proofs.lemmas.Bool.{cases_lt}
use Rattle.std.proofs.lemmas.List.Sums.{sum_by-take-le}
use Rattle.std.proofs.lemmas.List.Elements.{All-push, All-nil}
use Rattle.demand_core.specs.declared.Load.{Load}
use Rattle.demand_core.specs.declared.Base.{Base}
use Rattle.demand_core.specs.Demand.{CanRepeat, IsWindow}
use Rattle.feasibility.specs.Chosen.{version_of, load_of, loads_of, versions_of, vector_loads, AreTables}

pub versions_of-zero : (front : List ℕ) → [] ≡ versions_of front 0
unfolding versions_of
versions_of-zero front = refl

pub versions_of-suc : (front : List ℕ) (n : ℕ) → versions_of front (n + 1) ≡ versions_of front n ++ version_of front n ∷ []
unfolding versions_of
versions_of-suc front n = let e : n + 1 ≡ suc n = omega arith in rw e refl

pub loads_of-zero : (tables : List (List Load)) (front : List ℕ) → [] ≡ loads_of tables front 0
unfolding loads_of
loads_of-zero tables front = refl

pub loads_of-suc : (tables : List (List Load)) (front : List ℕ) (n : ℕ) → loads_of tables front (n + 1) ≡ loads_of tables front n ++ load_of tables front n ∷ []
unfolding loads_of
loads_of-suc tables front n = let e : n + 1 ≡ suc n = omega arith in rw e refl

pub length-loads_of : (tables : List (List Load)) (front : List ℕ) (n : ℕ) → length (loads_of tables front n) ≡ n
unfolding loads_of
length-loads_of tables front zero = refl
length-loads_of tables front (suc n) = omega (arith, length-append (loads_of tables front n) (load_of tables front n ∷ []), length-loads_of tables front n)

-- what holds of the load of each event holds of all
pub all_loads : (P : Load → Type 0) (tables : List (List Load)) (front : List ℕ) (n : ℕ) → ((event : ℕ) → event < n → P (load_of tables front event)) →
    All P (loads_of tables front n)
unfolding loads_of
all_loads P tables front zero each = All-nil P
all_loads P tables front (suc n) each =
    All-push P (loads_of tables front n) (load_of tables front n) (all_loads P tables front n (λ event h. each event (omega arith))) (each n (omega arith))

pub get_or-loads_of : (tables : List (List Load)) (front : List ℕ) (n k : ℕ) (d : Load) → k < n → get_or (loads_of tables front n) k d ≡ load_of tables front k
unfolding loads_of
get_or-loads_of tables front zero k d below = absurd (omega arith)
get_or-loads_of tables front (suc n) k d below =
    let long = length-loads_of tables front n in
    elim (cases_lt k n) [
      | inl sooner ↦ get_or-append (loads_of tables front n) (load_of tables front n ∷ []) d k (omega arith) ∙ get_or-loads_of tables front n k d sooner
      | inr last ↦
          let here : k ≡ length (loads_of tables front n) = omega arith in
          let same : k ≡ n = omega arith in
          subst (λ (m : ℕ). get_or (loads_of tables front n ++ load_of tables front n ∷ []) k d ≡ load_of tables front m) (sym same)
          (subst (λ (m : ℕ). get_or (loads_of tables front n ++ load_of tables front n ∷ []) m d ≡ load_of tables front n) (sym here)
          (get_or-append_seam (loads_of tables front n) (load_of tables front n) [] d))
    ]

-- a front has no more mentions than the whole order
pub count_take : (p : ℕ → Bool) (k : ℕ) (order : List ℕ) → count_by p (take k order) ≤ count_by p order
count_take p k order = sum_by-take-le (λ x. cond (p x) 1 0) order k

pub enough_of : (tables : List (List Load)) (order : List ℕ) (k : ℕ) → AreTables tables order →
    (event : ℕ) → event < length tables → version_of (take k order) event < length (get_or tables event [])
enough_of tables order k are event within =
    let fewer = count_take (λ m. m == event) k order in
    let some = are.enough event within in
    omega arith

pub repeats_of : (base : Base) (tables : List (List Load)) (order : List ℕ) (k : ℕ) → 0 < base.p → AreTables tables order → CanRepeat base (vector_loads tables order k)
repeats_of base tables order k p are =
    record {
      p = p;
      spacings = all_loads (λ x. 0 < x.spacing) tables (take k order) (length tables)
          (λ event within. are.spacing event (version_of (take k order) event) within (enough_of tables order k are event within));
      within = all_loads (λ x. x.deadline ≤ x.spacing) tables (take k order) (length tables)
          (λ event within. are.deadline event (version_of (take k order) event) within (enough_of tables order k are event within));
    }

-- the spacing of an event is the same in each vector
spacing_same : (tables : List (List Load)) (order : List ℕ) (j k event : ℕ) (d : Load) → AreTables tables order → event < length tables →
    (get_or (vector_loads tables order j) event d).spacing ≡ (get_or (vector_loads tables order k) event d).spacing
spacing_same tables order j k event d are within =
    let one = are.same event (version_of (take j order) event) within (enough_of tables order j are event within) in
    let other = are.same event (version_of (take k order) event) within (enough_of tables order k are event within) in
    ap (λ (x : Load). x.spacing) (get_or-loads_of tables (take j order) (length tables) event d within) ∙ (one ∙ (sym other
    ∙ ap (λ (x : Load). x.spacing) (sym (get_or-loads_of tables (take k order) (length tables) event d within))))

divides_same : (tables : List (List Load)) (order : List ℕ) (j k n : ℕ) → AreTables tables order →
    All (λ x. x.spacing ∣ n) (vector_loads tables order j) → All (λ x. x.spacing ∣ n) (vector_loads tables order k)
divides_same tables order j k n are all event d within =
    let here : event < length tables = subst (λ (m : ℕ). event < m) (length-loads_of tables (take k order) (length tables)) within in
    subst (λ (t : ℕ). t ∣ n) (spacing_same tables order j k event d are here)
    (all event d (subst (λ (m : ℕ). event < m) (sym (length-loads_of tables (take j order) (length tables))) here))

pub window_same : (p : ℕ) (tables : List (List Load)) (order : List ℕ) (j k window : ℕ) → AreTables tables order →
    IsWindow p (vector_loads tables order j) window → IsWindow p (vector_loads tables order k) window
window_same p tables order j k window are is =
    record {
      positive = is.positive;
      of_p = is.of_p;
      of_spacings = divides_same tables order j k window are is.of_spacings;
      least = λ n some of_p all. is.least n some of_p (divides_same tables order k j n are all);
    }
