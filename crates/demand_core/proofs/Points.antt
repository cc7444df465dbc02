-- Only the lengths where demand jumps matter, and more harvest only helps.
use Rattle.std.proofs.Common.{◌≡◌, ◌≢◌, ℕ, zero, suc, ◌+◌, ◌-◌, ◌*◌, ◌/◌, ◌%◌, ◌<◌, ◌≤◌, ◌⊎◌, inl, inr, List, [], ◌∷◌, length, All, Any, min, fold, refl, sym, ap, subst, ◌∙◌, arith, mul-le-mul_right, mul-le-mul_left, div-mul-le_self}
use native.Mathlib.Nat.{div-add-mod'}
use Rattle.std.proofs.lemmas.Nat.{mod_below, div-mul-add, le-div}
use Rattle.std.specs.List.{AllByRecursion}
use Rattle.std.proofs.lemmas.List.Elements.{All-nil, All-from_recursion}
use Rattle.std.proofs.lemmas.Bool.{cases_lt}
use Rattle.demand_core.specs.declared.Load.{Load}
use Rattle.demand_core.specs.declared.Base.{Base}
use Rattle.demand_core.specs.Demand.{sbf, rbf, dbf, block, most, reserve, least_deadline, CanRepeat, FitsAt, IsDueAt}
use Rattle.demand_core.proofs.Sums.{IsAt, over-le, each_or_one, all_at, any_at}
use Rattle.demand_core.proofs.Closing.{rbf_is, dbf_is, most-le, block-le}

-- a quotient grows only at a multiple
pub div-same : (l t : ℕ) → 0 < t → (l + 1) % t ≢ 0 → (l + 1) / t ≡ l / t
div-same l t pos not_at =
    let below : (l + 1) % t < t = mod_below (l + 1) t pos in
    let whole : (l + 1) / t * t + (l + 1) % t ≡ l + 1 = div-add-mod' (l + 1) t in
    let before : l ≡ (l + 1) / t * t + ((l + 1) % t - 1) = omega arith in
    let same : ((l + 1) / t * t + ((l + 1) % t - 1)) / t ≡ (l + 1) / t = div-mul-add ((l + 1) / t) t ((l + 1) % t - 1) (omega arith) in
    sym (ap (λ (n : ℕ). n / t) before ∙ same)

pub div-le : (a b t : ℕ) → 0 < t → a ≤ b → a / t ≤ b / t
div-le a b t pos le = le-div (a / t) b t pos (omega (arith, div-mul-le_self a t))

-- what bounds f at each place bounds the greatest
pub most-below : (f : ℕ → ℕ) (n b : ℕ) → ((l : ℕ) → l < n → f l ≤ b) → most f n ≤ b
unfolding most
most-below f zero b each = omega arith
most-below f (suc n) b each = omega (arith, most-below f n b (λ l h. each l (omega arith)), each n (omega arith))

pub most-rises : (f g : ℕ → ℕ) (n : ℕ) → ((l : ℕ) → f l ≤ g l) → most f n ≤ most g n
most-rises f g n each = most-below f n (most g n) (λ l h. omega (arith, each l, most-le g n l h))

-- a multiple is some number of spacings
pub multiple_of : (n t : ℕ) → n % t ≡ 0 → n ≡ n / t * t
multiple_of n t none = let whole : n / t * t + n % t ≡ n = div-add-mod' n t in omega arith

-- either no spacing ends at n, or one does
at_or_not : (loads : List Load) (f : ℕ → Load → ℕ) → ((e : ℕ) (x : Load) → IsAt loads e x → f e x ≢ 0) ⊎ ((e : ℕ) × (x : Load) × IsAt loads e x × (f e x ≡ 0))
at_or_not loads f =
    elim (each_or_one loads (λ e x. 1) f) [
      | inl each ↦ inl (λ e x at same. let some = each e x at in absurd (omega arith))
      | inr one ↦ let few : f one.0 one.1 < 1 = one.3 in inr (one.0, one.1, one.2, omega arith)
    ]

rbf-still : (loads : List Load) (l : ℕ) → ((e : ℕ) (x : Load) → IsAt loads e x → 0 < x.spacing) → ((e : ℕ) (x : Load) → IsAt loads e x → (l + 1) % x.spacing ≢ 0) →
    rbf loads (l + 1) ≤ rbf loads l
rbf-still loads l pos none =
    rw (rbf_is, rbf_is) (over-le loads (λ e x. ((l + 1) / x.spacing + 1) * x.units) (λ e x. (l / x.spacing + 1) * x.units)
    (λ e x at. let same = div-same l x.spacing (pos e x at) (none e x at) in mul-le-mul_right x.units (omega arith)))

sbf-rises : (base : Base) (l : ℕ) → 0 < base.p → sbf base l ≤ sbf base (l + 1)
unfolding sbf
sbf-rises base l pos = mul-le-mul_left base.q (div-le l (l + 1) base.p pos (omega arith))

-- what bounds the difference at 0 and at the multiples of the spacings bounds it everywhere
difference_at_points : (base : Base) (loads : List Load) (window b : ℕ) → CanRepeat base loads → rbf loads 0 - sbf base 0 ≤ b →
    ((e : ℕ) (x : Load) (k : ℕ) → IsAt loads e x → k * x.spacing < window → rbf loads (k * x.spacing) - sbf base (k * x.spacing) ≤ b) →
    (l : ℕ) → l < window → rbf loads l - sbf base l ≤ b
difference_at_points base loads window b are first points zero within = first
difference_at_points base loads window b are first points (suc l) within =
    let e : suc l ≡ l + 1 = omega arith in
    rw e (elim (at_or_not loads (λ i x. (l + 1) % x.spacing)) [
      | inl none ↦
          let before = difference_at_points base loads window b are first points l (omega arith) in
          let still = rbf-still loads l (all_at (λ y. 0 < y.spacing) loads are.spacings) none in
          omega (arith, sbf-rises base l are.p)
      | inr one ↦
          let is : l + 1 ≡ (l + 1) / one.1.spacing * one.1.spacing = multiple_of (l + 1) one.1.spacing one.3 in
          subst (λ (n : ℕ). rbf loads n - sbf base n ≤ b) (sym is) (points one.0 one.1 ((l + 1) / one.1.spacing) one.2 (omega arith))
    ])

reserve_at_points : (base : Base) (loads : List Load) (window b : ℕ) → CanRepeat base loads → rbf loads 0 - sbf base 0 ≤ b →
    ((e : ℕ) (x : Load) (k : ℕ) → IsAt loads e x → k * x.spacing < window → rbf loads (k * x.spacing) - sbf base (k * x.spacing) ≤ b) →
    reserve base loads window ≤ b
unfolding reserve
reserve_at_points base loads window b are first points =
    most-below (λ l. rbf loads l - sbf base l) window b (difference_at_points base loads window b are first points)

dbf-still : (loads : List Load) (l : ℕ) → ((e : ℕ) (x : Load) → IsAt loads e x → 0 < x.spacing) → ((e : ℕ) (x : Load) → IsAt loads e x → x.deadline ≤ x.spacing) →
    ((e : ℕ) (x : Load) → IsAt loads e x → (l + 1 + x.spacing - x.deadline) % x.spacing ≢ 0) → dbf loads (l + 1) ≤ dbf loads l
dbf-still loads l pos within none =
    rw (dbf_is, dbf_is) (over-le loads (λ e x. (l + 1 + x.spacing - x.deadline) / x.spacing * x.ticks) (λ e x. (l + x.spacing - x.deadline) / x.spacing * x.ticks)
    (λ e x at.
    let short = within e x at in
    let not_at = none e x at in
    let shift : l + 1 + x.spacing - x.deadline ≡ l + x.spacing - x.deadline + 1 = omega arith in
    let not_at' : (l + x.spacing - x.deadline + 1) % x.spacing ≢ 0 = λ same. not_at (ap (λ (n : ℕ). n % x.spacing) shift ∙ same) in
    let same : (l + x.spacing - x.deadline + 1) / x.spacing ≡ (l + x.spacing - x.deadline) / x.spacing = div-same (l + x.spacing - x.deadline) x.spacing (pos e x at) not_at' in
    mul-le-mul_right x.ticks (rw (shift, same) (omega arith))))

-- a job can be due at l where a whole number of spacings ends there
due_point : (x : Load) (l : ℕ) → x.deadline ≤ x.spacing → 0 < l → (l + x.spacing - x.deadline) % x.spacing ≡ 0 → IsDueAt l x
due_point x l short some none =
    let is = multiple_of (l + x.spacing - x.deadline) x.spacing none in
    ((l + x.spacing - x.deadline) / x.spacing - 1, one_less ((l + x.spacing - x.deadline) / x.spacing) x.spacing l x.deadline short some is)
  where
    one_less : (k t l d : ℕ) → d ≤ t → 0 < l → l + t - d ≡ k * t → l ≡ d + (k - 1) * t
    one_less zero t l d short some is = absurd (omega arith)
    one_less (suc k) t l d short some is = let back : suc k - 1 ≡ k = omega arith in rw back (omega arith)

-- where the work fits at the deadlines and a whole number of spacings after them, it fits at every length
fits_from : (base : Base) (loads : List Load) (window : ℕ) → CanRepeat base loads → FitsAt base loads (least_deadline loads) →
    ((e : ℕ) (x : Load) (k : ℕ) → IsAt loads e x → x.deadline + k * x.spacing < least_deadline loads + window → FitsAt base loads (x.deadline + k * x.spacing)) →
    (n : ℕ) → n < window → FitsAt base loads (least_deadline loads + n)
fits_from base loads window are first points zero within = let e : least_deadline loads + zero ≡ least_deadline loads = omega arith in rw e first
fits_from base loads window are first points (suc n) within =
    let l : ℕ = least_deadline loads + n in
    let e : least_deadline loads + suc n ≡ least_deadline loads + n + 1 = omega arith in
    rw e (elim (at_or_not loads (λ i x. (least_deadline loads + n + 1 + x.spacing - x.deadline) % x.spacing)) [
      | inl none ↦
          let before = fits_from base loads window are first points n (omega arith) in
          let still = dbf-still loads (least_deadline loads + n) (all_at (λ y. 0 < y.spacing) loads are.spacings) (all_at (λ y. y.deadline ≤ y.spacing) loads are.within) none in
          omega (arith, block-le base loads (least_deadline loads + n) (least_deadline loads + n + 1) (omega arith))
      | inr one ↦
          let due = due_point one.1 (least_deadline loads + n + 1) (all_at (λ y. y.deadline ≤ y.spacing) loads are.within one.0 one.1 one.2) (omega arith) one.3 in
          let is : least_deadline loads + n + 1 ≡ one.1.deadline + due.0 * one.1.spacing = due.1 in
          subst (λ (m : ℕ). FitsAt base loads m) (sym is) (points one.0 one.1 due.0 one.2 (omega arith))
    ])

-- some event has the least deadline
least_of : (d : ℕ) (loads : List Load) →
    (fold (λ m y. min m y.deadline) d loads ≡ d) ⊎ ((e : ℕ) × (x : Load) × IsAt loads e x × (fold (λ m y. min m y.deadline) d loads ≡ x.deadline))
least_of d [] = inl refl
least_of d (y ∷ loads) =
    elim (least_of (min d y.deadline) loads) [
      | inl same ↦ elim (cases_lt y.deadline d) [
        | inl sooner ↦ inr (0, y, refl, omega arith)
        | inr later ↦ inl (omega arith)
      ]
      | inr one ↦ inr (suc one.0, one.1, one.2, one.3)
    ]

has_least : (loads : List Load) → 0 < length loads → (e : ℕ) × (x : Load) × IsAt loads e x × (least_deadline loads ≡ x.deadline)
unfolding least_deadline
has_least [] some = absurd (omega arith)
has_least (y ∷ loads) some =
    elim (least_of y.deadline loads) [
      | inl same ↦ (0, y, refl, same)
      | inr one ↦ (suc one.0, one.1, one.2, one.3)
    ]

fold_min-le : (d : ℕ) (loads : List Load) → fold (λ m y. min m y.deadline) d loads ≤ d
fold_min-le d [] = omega arith
fold_min-le d (x ∷ loads) = let rest = fold_min-le (min d x.deadline) loads in omega arith

fold_min-each : (d : ℕ) (loads : List Load) → AllByRecursion (λ x. fold (λ m y. min m y.deadline) d loads ≤ x.deadline) loads
fold_min-each d [] = tt
fold_min-each d (y ∷ loads) =
    let rest = fold_min-le (min d y.deadline) loads in (omega arith, fold_min-each (min d y.deadline) loads)

-- ---- the laws

pub least_deadline-le : (loads : List Load) → All (λ x. least_deadline loads ≤ x.deadline) loads
unfolding least_deadline
least_deadline-le [] = All-nil (λ x. least_deadline [] ≤ x.deadline)
least_deadline-le (y ∷ loads) =
    All-from_recursion (λ x. fold (λ m y. min m y.deadline) y.deadline loads ≤ x.deadline) (y ∷ loads) (fold_min-le y.deadline loads, fold_min-each y.deadline loads)

pub covered : (base : Base) (loads : List Load) (window l : ℕ) → l < window → rbf loads l - sbf base l ≤ reserve base loads window
unfolding reserve
covered base loads window l within = most-le (λ l. rbf loads l - sbf base l) window l within

pub kept_at_points : (base : Base) (loads : List Load) (window bound : ℕ) → CanRepeat base loads → rbf loads 0 - sbf base 0 ≤ bound →
    All (λ x. (k : ℕ) → k * x.spacing < window → rbf loads (k * x.spacing) - sbf base (k * x.spacing) ≤ bound) loads →
    reserve base loads window ≤ bound
kept_at_points base loads window bound are first points =
    reserve_at_points base loads window bound are first
    (λ e x k at. all_at (λ x. (k : ℕ) → k * x.spacing < window → rbf loads (k * x.spacing) - sbf base (k * x.spacing) ≤ bound) loads points e x at k)

pub fits_at_points : (base : Base) (loads : List Load) (upto l : ℕ) → CanRepeat base loads → 0 < length loads →
    All (λ x. (k : ℕ) → x.deadline + k * x.spacing < upto → FitsAt base loads (x.deadline + k * x.spacing)) loads →
    least_deadline loads ≤ l → l < upto → FitsAt base loads l
fits_at_points base loads upto l are some points from within =
    subst (λ (m : ℕ). FitsAt base loads m) shift
    (fits_from base loads (upto - least_deadline loads) are first (λ e x k at below. at_point e x k at (omega arith)) (l - least_deadline loads) (omega arith))
  where
    shift : least_deadline loads + (l - least_deadline loads) ≡ l
    shift = omega arith

    at_point : (e : ℕ) (x : Load) (k : ℕ) → IsAt loads e x → x.deadline + k * x.spacing < upto → FitsAt base loads (x.deadline + k * x.spacing)
    at_point e x k at below = all_at (λ x. (k : ℕ) → x.deadline + k * x.spacing < upto → FitsAt base loads (x.deadline + k * x.spacing)) loads points e x at k below

    first : FitsAt base loads (least_deadline loads)
    first =
        let least = has_least loads some in
        let is : least_deadline loads ≡ least.1.deadline = least.3 in
        let none : least.1.deadline + 0 * least.1.spacing ≡ least_deadline loads = omega arith in
        subst (λ (m : ℕ). FitsAt base loads m) none (at_point least.0 least.1 0 least.2 (omega arith))

pub first_late : (base : Base) (loads : List Load) (at : ℕ) → CanRepeat base loads → 0 < length loads → least_deadline loads ≤ at →
    ((l : ℕ) → least_deadline loads ≤ l → l < at → FitsAt base loads l) → at < dbf loads at + block base loads at → Any (IsDueAt at) loads
first_late base loads at are some from before late =
    elim (cases_lt (least_deadline loads) at) [
      | inl later ↦ beyond (at - 1) later (omega arith)
      | inr here ↦
          let least = has_least loads some in
          let is : least_deadline loads ≡ least.1.deadline = least.3 in
          any_at (IsDueAt at) loads least.0 least.1 least.2 (0, omega arith)
    ]
  where
    beyond : (n : ℕ) → least_deadline loads < at → at ≡ n + 1 → Any (IsDueAt at) loads
    beyond n later is =
        elim (at_or_not loads (λ i x. (n + 1 + x.spacing - x.deadline) % x.spacing)) [
          | inl none ↦
              let fits : dbf loads n + block base loads n ≤ n = before n (omega arith) (omega arith) in
              let still = dbf-still loads n (all_at (λ y. 0 < y.spacing) loads are.spacings) (all_at (λ y. y.deadline ≤ y.spacing) loads are.within) none in
              let falls = block-le base loads n (n + 1) (omega arith) in
              let late' : n + 1 < dbf loads (n + 1) + block base loads (n + 1) = subst (λ (m : ℕ). m < dbf loads m + block base loads m) is late in
              absurd (omega arith)
          | inr one ↦
              let due = due_point one.1 (n + 1) (all_at (λ y. y.deadline ≤ y.spacing) loads are.within one.0 one.1 one.2) (omega arith) one.3 in
              let is' : n + 1 ≡ one.1.deadline + due.0 * one.1.spacing = due.1 in
              any_at (IsDueAt at) loads one.0 one.1 one.2 (due.0, omega arith)
        ]

-- ---- more harvest

pub sbf-more : (base more : Base) (l : ℕ) → more.p ≡ base.p → base.q ≤ more.q → sbf base l ≤ sbf more l
unfolding sbf
sbf-more base more l same le = rw same (mul-le-mul_right (l / base.p) le)

-- the reserve does not grow with the harvest
pub reserve-less : (base more : Base) (loads : List Load) (window : ℕ) → more.p ≡ base.p → base.q ≤ more.q → reserve more loads window ≤ reserve base loads window
unfolding reserve
reserve-less base more loads window same le =
    most-rises (λ l. rbf loads l - sbf more l) (λ l. rbf loads l - sbf base l) window (λ l. omega (arith, sbf-more base more l same le))
