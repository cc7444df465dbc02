-- Demand and supply repeat after a window, so what holds in one window holds at every length.
use Rattle.std.proofs.Common.{get_or, drop, drop-cons, add-one, drop_of_length-le, max, ◌≡◌, ℕ, suc, zero, ◌+◌, ◌-◌, ◌*◌, ◌/◌, ◌%◌, ◌<◌, ◌≤◌, inl, inr, List, [], ◌∷◌, length, sum_by, All, refl, sym, ap, ap₂, subst, ◌∙◌, arith}
use Rattle.std.specs.Int.{◌∣◌}
use native.Mathlib.Nat.{mod-eq-zero_of_dvd, div-add-mod, add-mul-div_left}
use Rattle.std.proofs.lemmas.Bool.{cases_lt}
use Rattle.std.proofs.lemmas.Bool.Decides.{nat_tests}
use Rattle.std.proofs.lemmas.Nat.{mod_below}
use Rattle.demand_core.specs.declared.Load.{Load}
use Rattle.demand_core.specs.declared.Base.{Base}
use Rattle.demand_core.specs.Demand.{sbf, rbf, dbf, longest_job, block, most, reserve, least_deadline, CanRepeat, IsWindow, IsFeasible}
use Rattle.demand_core.proofs.Sums.{IsAt, over, over-add, over_is, all_at, all_of}

-- a whole number of spacings adds to the quotient
pub div_add : (l w t : ℕ) → 0 < t → t ∣ w → (l + w) / t ≡ l / t + w / t
div_add l w t pos div =
    let none : w % t ≡ 0 = mod-eq-zero_of_dvd t div in
    let whole : w ≡ t * (w / t) = omega (arith, div-add-mod w t) in
    ap (λ (n : ℕ). (l + n) / t) whole ∙ add-mul-div_left l (w / t) pos

-- the greatest is at least each
pub most-le : (f : ℕ → ℕ) (n l : ℕ) → l < n → f l ≤ most f n
unfolding most
most-le f zero l h = absurd (omega arith)
most-le f (suc n) l h =
    elim (cases_lt l n) [
      | inl below ↦ omega (arith, most-le f n l below)
      | inr above ↦ let same : l ≡ n = omega arith in rw same (omega arith)
    ]

pub most-zero : (f : ℕ → ℕ) → 0 ≡ most f 0
unfolding most
most-zero f = λ i. 0

pub most-suc : (f : ℕ → ℕ) (n : ℕ) → most f (n + 1) ≡ max (most f n) (f n)
unfolding most
most-suc f n = let e : n + 1 ≡ suc n = omega arith in rw e refl

-- the longest job of what is left, one load on
pub longest_job-yes : (loads : List Load) (i l : ℕ) (d : Load) → i < length loads → l < (get_or loads i d).deadline →
    longest_job (drop i loads) l ≡ max (get_or loads i d).ticks (longest_job (drop (i + 1) loads) l)
unfolding longest_job
longest_job-yes loads i l d within later =
    let front = drop-cons loads i d within in
    rw (front, add-one) (grind (arith, nat_tests))

pub longest_job-no : (loads : List Load) (i l : ℕ) (d : Load) → i < length loads → (get_or loads i d).deadline ≤ l →
    longest_job (drop i loads) l ≡ longest_job (drop (i + 1) loads) l
unfolding longest_job
longest_job-no loads i l d within sooner =
    let front = drop-cons loads i d within in
    rw (front, add-one) (grind (arith, nat_tests))

pub longest_job-end : (loads : List Load) (i l : ℕ) → length loads ≤ i → longest_job (drop i loads) l ≡ 0
unfolding longest_job
longest_job-end loads i l past = ap (λ (rest : List Load). longest_job rest l) (drop_of_length-le loads past)

pub rbf_is : (loads : List Load) (l : ℕ) → rbf loads l ≡ over loads (λ e x. (l / x.spacing + 1) * x.units)
unfolding rbf
rbf_is loads l = sym (over_is loads (λ x. (l / x.spacing + 1) * x.units))

pub dbf_is : (loads : List Load) (l : ℕ) → dbf loads l ≡ over loads (λ e x. (l + x.spacing - x.deadline) / x.spacing * x.ticks)
unfolding dbf
dbf_is loads l = sym (over_is loads (λ x. (l + x.spacing - x.deadline) / x.spacing * x.ticks))

pub rbf-add : (base : Base) (loads : List Load) (window l : ℕ) → CanRepeat base loads → IsWindow base.p loads window →
    rbf loads (l + window) ≡ rbf loads l + sum_by (λ x. window / x.spacing * x.units) loads
rbf-add base loads window l are is =
    rbf_is loads (l + window) ∙ over-add loads _ _ _ each ∙ ap₂ (λ (m n : ℕ). m + n) (sym (rbf_is loads l)) (over_is loads (λ x. window / x.spacing * x.units))
  where
    each : (e : ℕ) (x : Load) → IsAt loads e x → ((l + window) / x.spacing + 1) * x.units ≡ (l / x.spacing + 1) * x.units + window / x.spacing * x.units
    each e x at =
        let same : (l + window) / x.spacing ≡ l / x.spacing + window / x.spacing =
        div_add l window x.spacing (all_at (λ y. 0 < y.spacing) loads are.spacings e x at) (all_at (λ y. y.spacing ∣ window) loads is.of_spacings e x at) in
        rw same (omega arith)

pub dbf-add : (base : Base) (loads : List Load) (window l : ℕ) → CanRepeat base loads → IsWindow base.p loads window →
    dbf loads (l + window) ≡ dbf loads l + sum_by (λ x. window / x.spacing * x.ticks) loads
dbf-add base loads window l are is =
    dbf_is loads (l + window) ∙ over-add loads _ _ _ each ∙ ap₂ (λ (m n : ℕ). m + n) (sym (dbf_is loads l)) (over_is loads (λ x. window / x.spacing * x.ticks))
  where
    each : (e : ℕ) (x : Load) → IsAt loads e x →
        (l + window + x.spacing - x.deadline) / x.spacing * x.ticks ≡ (l + x.spacing - x.deadline) / x.spacing * x.ticks + window / x.spacing * x.ticks
    each e x at =
        let within : x.deadline ≤ x.spacing = all_at (λ y. y.deadline ≤ y.spacing) loads are.within e x at in
        let shift : l + window + x.spacing - x.deadline ≡ l + x.spacing - x.deadline + window = omega arith in
        let same : (l + x.spacing - x.deadline + window) / x.spacing ≡ (l + x.spacing - x.deadline) / x.spacing + window / x.spacing =
        div_add (l + x.spacing - x.deadline) window x.spacing (all_at (λ y. 0 < y.spacing) loads are.spacings e x at) (all_at (λ y. y.spacing ∣ window) loads is.of_spacings e x at) in
        rw (shift, same) (omega arith)

pub sbf-add : (base : Base) (loads : List Load) (window l : ℕ) → CanRepeat base loads → IsWindow base.p loads window →
    sbf base (l + window) ≡ sbf base l + base.q * (window / base.p)
unfolding sbf
sbf-add base loads window l are is =
    let same : (l + window) / base.p ≡ l / base.p + window / base.p = div_add l window base.p are.p is.of_p in
    rw same (omega arith)

-- nothing blocks longer where there is more time
pub longest_job-le : (loads : List Load) (l m : ℕ) → l ≤ m → longest_job loads m ≤ longest_job loads l
unfolding longest_job
longest_job-le [] l m le = omega arith
longest_job-le (x ∷ loads) l m le =
    let rest = longest_job-le loads l m le in
    grind (arith, nat_tests)

pub block-le : (base : Base) (loads : List Load) (l m : ℕ) → l ≤ m → block base loads m ≤ block base loads l
unfolding block
block-le base loads l m le = let jobs = longest_job-le loads l m le in omega arith

longest_job_ge : (loads : List Load) (l e : ℕ) (x : Load) → IsAt loads e x → l < x.deadline → x.ticks ≤ longest_job loads l
unfolding longest_job
longest_job_ge [] l e x at later = elim at [ ]
longest_job_ge (y ∷ loads) l zero x at later =
    let here : l < y.deadline = subst (λ (z : Load). l < z.deadline) (sym at) later in
    let le : y.ticks ≤ longest_job (y ∷ loads) l = grind (arith, nat_tests) in
    subst (λ (z : Load). z.ticks ≤ longest_job (y ∷ loads) l) at le
longest_job_ge (y ∷ loads) l (suc e) x at later = let rest = longest_job_ge loads l e x at later in omega arith

-- a job that is due later than l blocks
job_blocks : (base : Base) (loads : List Load) (l e : ℕ) (x : Load) → IsAt loads e x → l < x.deadline → x.ticks ≤ block base loads l + 1
unfolding block
job_blocks base loads l e x at later = let le = longest_job_ge loads l e x at later in omega arith

pub longest_blocks : (base : Base) (loads : List Load) (l : ℕ) → base.longest ≤ block base loads l + 1
unfolding block
longest_blocks base loads l = omega arith

pub each_blocks : (base : Base) (loads : List Load) (l : ℕ) → All (λ x. l < x.deadline → x.ticks ≤ block base loads l + 1) loads
each_blocks base loads l = all_of (λ x. l < x.deadline → x.ticks ≤ block base loads l + 1) loads (job_blocks base loads l)

pub energy_closes : (base : Base) (loads : List Load) (window : ℕ) → CanRepeat base loads → IsWindow base.p loads window → IsFeasible base loads window →
    (l : ℕ) → rbf loads l ≤ reserve base loads window + sbf base l
unfolding reserve
energy_closes base loads window are is feasible l =
    let whole : l ≡ l % window + l / window * window = omega (arith, div-add-mod l window) in
    rw whole (turns (l / window) (l % window) (mod_below l window is.positive))
  where
    turns : (k r : ℕ) → r < window → rbf loads (r + k * window) ≤ reserve base loads window + sbf base (r + k * window)
    turns zero r h =
        let most = most-le (λ l. rbf loads l - sbf base l) window r h in
        let none : r + 0 * window ≡ r = omega arith in
        rw none (omega arith)
    turns (suc k) r h =
        let before = turns k r h in
        let more : r + suc k * window ≡ r + k * window + window = omega arith in
        rw more (omega (arith, rbf-add base loads window (r + k * window) are is, sbf-add base loads window (r + k * window) are is, feasible.energy))

pub time_closes : (base : Base) (loads : List Load) (window : ℕ) → CanRepeat base loads → IsWindow base.p loads window → IsFeasible base loads window →
    (l : ℕ) → 0 < length loads → least_deadline loads ≤ l → dbf loads l + block base loads l ≤ l
time_closes base loads window are is feasible l some enough =
    let d : ℕ = least_deadline loads in
    let whole : l ≡ d + (l - d) % window + (l - d) / window * window = omega (arith, div-add-mod (l - d) window) in
    rw whole (turns ((l - d) / window) ((l - d) % window) (mod_below (l - d) window is.positive))
  where
    turns : (k r : ℕ) → r < window →
        dbf loads (least_deadline loads + r + k * window) + block base loads (least_deadline loads + r + k * window) ≤ least_deadline loads + r + k * window
    turns zero r h =
        let none : least_deadline loads + r + 0 * window ≡ least_deadline loads + r = omega arith in
        rw none (feasible.due (least_deadline loads + r) some (omega arith) (omega arith))
    turns (suc k) r h =
        let before = turns k r h in
        let l : ℕ = least_deadline loads + r + k * window in
        let more : least_deadline loads + r + suc k * window ≡ least_deadline loads + r + k * window + window = omega arith in
        rw more (omega (
          arith,
          dbf-add base loads window (least_deadline loads + r + k * window) are is,
          block-le base loads (least_deadline loads + r + k * window) (least_deadline loads + r + k * window + window) (omega arith),
          feasible.busy,
        ))
