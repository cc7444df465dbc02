-- Where a window leaves supply or time over, no long length matters.
use Rattle.std.proofs.Common.{◌≡◌, ℕ, suc, ◌+◌, ◌-◌, ◌*◌, ◌/◌, ◌%◌, ◌<◌, ◌≤◌, inl, inr, List, [], ◌∷◌, sum_by, arith, refl, subst, mul-le-mul_right, div-mul-le_self}
use Rattle.std.proofs.lemmas.List.Sums.{sum_by-cons}
use Rattle.std.proofs.lemmas.Bool.{cases_lt}
use Rattle.std.proofs.lemmas.Nat.{mod_below}
use Rattle.std.specs.Int.{◌∣◌}
use native.Mathlib.Nat.{mul-div_cancel', div-add-mod, div-eq_of_lt}
use Rattle.demand_core.specs.declared.Load.{Load}
use Rattle.demand_core.specs.declared.Base.{Base}
use Rattle.demand_core.specs.Demand.{sbf, rbf, dbf, block, energy_use, time_use, CanRepeat, IsWindow, FitsAt}
use Rattle.demand_core.proofs.Sums.{IsAt, all_at}
use Rattle.demand_core.proofs.Closing.{block-le}

-- a positive factor on both sides
le_from_products : (a b h : ℕ) → 0 < h → a * h ≤ b * h → a ≤ b
le_from_products a b h some le =
    elim (cases_lt b a) [
      | inl above ↦ let more : suc b * h ≤ a * h = mul-le-mul_right h above in absurd (omega arith)
      | inr within ↦ within
    ]

-- what holds of each summand holds of the sums
sums_le : (loads : List Load) (f g c : Load → ℕ) (h l : ℕ) → ((e : ℕ) (x : Load) → IsAt loads e x → f x * h ≤ g x + l * c x) →
    sum_by f loads * h ≤ sum_by g loads + l * sum_by c loads
sums_le [] f g c h l each = omega arith
sums_le (x ∷ loads) f g c h l each =
    let here : f x * h ≤ g x + l * c x = each 0 x refl in
    let rest = sums_le loads f g c h l (λ e y at. each (suc e) y at) in
    rw (sum_by-cons, sum_by-cons, sum_by-cons) (omega arith)

sum_by-times : (loads : List Load) (f : Load → ℕ) (h : ℕ) → sum_by (λ x. f x * h) loads ≡ sum_by f loads * h
sum_by-times [] f h = omega arith
sum_by-times (x ∷ loads) f h = rw (sum_by-cons, sum_by-cons, sum_by-times loads f h) (omega arith)

-- the jobs in l + s ticks, each of c, times the window
jobs_le : (n t w c h : ℕ) → t * w ≡ h → n / t * c * h ≤ n * (w * c)
jobs_le n t w c h is =
    let most : n / t * t ≤ n = div-mul-le_self n t in
    let more : n / t * t * (w * c) ≤ n * (w * c) = mul-le-mul_right (w * c) most in
    let same : n / t * c * (t * w) ≡ n / t * t * (w * c) = grind arith in
    subst (λ (m : ℕ). n / t * c * m ≤ n * (w * c)) is (rw same more)

pub rbf_grows : (base : Base) (loads : List Load) (window l : ℕ) → CanRepeat base loads → IsWindow base.p loads window →
    rbf loads l * window ≤ rbf loads 0 * window + l * energy_use loads window
unfolding rbf
rbf_grows base loads window l are is =
    rw (← sum_by-times loads (λ x. (0 / x.spacing + 1) * x.units) window)
    (sums_le loads (λ x. (l / x.spacing + 1) * x.units) (λ x. (0 / x.spacing + 1) * x.units * window) (λ x. window / x.spacing * x.units) window l each)
  where
    each : (e : ℕ) (x : Load) → IsAt loads e x → (l / x.spacing + 1) * x.units * window ≤ (0 / x.spacing + 1) * x.units * window + l * (window / x.spacing * x.units)
    each e x at =
        let whole : x.spacing * (window / x.spacing) ≡ window = mul-div_cancel' x.spacing (all_at (λ y. y.spacing ∣ window) loads is.of_spacings e x at) in
        let jobs = jobs_le l x.spacing (window / x.spacing) x.units window whole in
        omega arith

sbf_grows : (base : Base) (loads : List Load) (window l : ℕ) → CanRepeat base loads → IsWindow base.p loads window →
    l * (base.q * (window / base.p)) ≤ sbf base l * window + base.q * window
unfolding sbf
sbf_grows base loads window l are is = go base.q base.p (window / base.p) window are.p (mul-div_cancel' base.p is.of_p)
  where
    go : (q p w h : ℕ) → 0 < p → p * w ≡ h → l * (q * w) ≤ q * (l / p) * h + q * h
    go q p w h some same =
        let rest = mod_below l p some in
        let whole : p * (l / p) + l % p ≡ l = div-add-mod l p in
        let near : l ≤ p * (l / p) + p = omega arith in
        let more : l * (q * w) ≤ (p * (l / p) + p) * (q * w) = mul-le-mul_right (q * w) near in
        let split : (p * (l / p) + p) * (q * w) ≡ q * (l / p) * (p * w) + q * (p * w) = grind arith in
        subst (λ (m : ℕ). l * (q * w) ≤ q * (l / p) * m + q * m) same (omega arith)

dbf_grows : (base : Base) (loads : List Load) (window l : ℕ) → CanRepeat base loads → IsWindow base.p loads window →
    dbf loads l * window ≤ sum_by (λ x. x.ticks) loads * window + l * time_use loads window
unfolding dbf
dbf_grows base loads window l are is =
    rw (← sum_by-times loads (λ x. x.ticks) window)
    (sums_le loads (λ x. (l + x.spacing - x.deadline) / x.spacing * x.ticks) (λ x. x.ticks * window) (λ x. window / x.spacing * x.ticks) window l each)
  where
    each : (e : ℕ) (x : Load) → IsAt loads e x → (l + x.spacing - x.deadline) / x.spacing * x.ticks * window ≤ x.ticks * window + l * (window / x.spacing * x.ticks)
    each e x at =
        let whole : x.spacing * (window / x.spacing) ≡ window = mul-div_cancel' x.spacing (all_at (λ y. y.spacing ∣ window) loads is.of_spacings e x at) in
        let jobs = jobs_le (l + x.spacing - x.deadline) x.spacing (window / x.spacing) x.ticks window whole in
        let near : (l + x.spacing - x.deadline) * (window / x.spacing * x.ticks) ≤ (l + x.spacing) * (window / x.spacing * x.ticks) = mul-le-mul_right (window / x.spacing * x.ticks) (omega arith) in
        let parts : x.spacing * (window / x.spacing) * x.ticks ≡ x.spacing * (window / x.spacing * x.ticks) = grind arith in
        let turn : x.ticks * window ≡ x.spacing * (window / x.spacing) * x.ticks = rw whole (grind arith) in
        omega arith

-- a * (b - c) where c ≤ b
spare_parts : (l b c : ℕ) → c ≤ b → l * (b - c) + l * c ≡ l * b
spare_parts l b c le = let back : b - c + c ≡ b = omega arith in let whole : l * (b - c + c) ≡ l * b = rw back refl in omega arith

sbf-zero : (base : Base) → 0 < base.p → sbf base 0 ≡ 0
unfolding sbf
sbf-zero base some = let none : 0 / base.p ≡ 0 = div-eq_of_lt some in rw none (omega arith)

pub ample_supply : (base : Base) (loads : List Load) (window l : ℕ) → CanRepeat base loads → IsWindow base.p loads window →
    energy_use loads window ≤ base.q * (window / base.p) → base.q * window ≤ l * (base.q * (window / base.p) - energy_use loads window) →
    rbf loads l - sbf base l ≤ rbf loads 0 - sbf base 0
ample_supply base loads window l are is enough far =
    let none = sbf-zero base are.p in
    let le : rbf loads l ≤ rbf loads 0 + sbf base l =
    le_from_products (rbf loads l) (rbf loads 0 + sbf base l) window is.positive
    (total (rbf loads l) (sbf base l) (rbf loads 0) (base.q * window) (l * energy_use loads window) (l * (base.q * (window / base.p))) _
    (rbf_grows base loads window l are is) (sbf_grows base loads window l are is) (spare_parts l (base.q * (window / base.p)) (energy_use loads window) enough) far) in
    omega arith
  where
    total : (r s u qh lu ls spare : ℕ) → r * window ≤ u * window + lu → ls ≤ s * window + qh → spare + lu ≡ ls → qh ≤ spare → r * window ≤ (u + s) * window
    total r s u qh lu ls spare grows supplied parts far = omega arith

pub ample_time : (base : Base) (loads : List Load) (window l : ℕ) → CanRepeat base loads → IsWindow base.p loads window →
    time_use loads window ≤ window → (sum_by (λ x. x.ticks) loads + block base loads 0) * window ≤ l * (window - time_use loads window) →
    FitsAt base loads l
ample_time base loads window l are is enough far =
    le_from_products (dbf loads l + block base loads l) l window is.positive
    (total (dbf loads l) (block base loads l) (block base loads 0) (sum_by (λ x. x.ticks) loads) (l * time_use loads window) _
    (dbf_grows base loads window l are is) (mul-le-mul_right window (block-le base loads 0 l (omega arith))) (spare_parts l window (time_use loads window) enough) far)
  where
    total : (d b b0 c lu spare : ℕ) → d * window ≤ c * window + lu → b * window ≤ b0 * window → spare + lu ≡ l * window → (c + b0) * window ≤ spare → (d + b) * window ≤ l * window
    total d b b0 c lu spare grows less parts far = omega arith
