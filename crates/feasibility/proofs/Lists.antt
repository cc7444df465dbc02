-- Sums, greatest and least values over the front of a list.
use Rattle.std.proofs.Common.{◌≡◌, ℕ, suc, ◌+◌, ◌*◌, ◌/◌, ◌%◌, ◌<◌, ◌≤◌, List, [], ◌∷◌, length, get_or, min, max, fold, ap, subst, arith, refl, mul-le-mul_right, le_trans, below_more}
use native.Mathlib.Nat.{div-add-mod'}
use Rattle.std.proofs.lemmas.Nat.{mod_below}
use Rattle.demand_core.specs.declared.Load.{Load}
use Rattle.demand_core.specs.Demand.{most, least_deadline}

-- what stands past the end of a list
abbrev pub none_of : Load
none_of = record { spacing = 0; deadline = 0; units = 0; ticks = 0 }

pub fold_min_whole : (loads : List Load) → 0 < length loads → fold (λ d x. min d x.deadline) (get_or loads 0 none_of).deadline loads ≡ least_deadline loads
unfolding least_deadline
fold_min_whole [] some = absurd (omega arith)
fold_min_whole (x ∷ loads) some = let same : min x.deadline x.deadline ≡ x.deadline = omega arith in ap (λ (d : ℕ). fold (λ m y. min m y.deadline) d loads) same

pub most-zero : (f : ℕ → ℕ) → 0 ≡ most f 0
unfolding most
most-zero f = λ i. 0

pub most-suc : (f : ℕ → ℕ) (n : ℕ) → most f (n + 1) ≡ max (most f n) (f n)
unfolding most
most-suc f n = let e : n + 1 ≡ suc n = omega arith in rw e refl

-- past a quotient a multiple of the divisor exceeds the number
pub far_enough : (x y l : ℕ) → 0 < y → x / y + 1 ≤ l → x ≤ l * y
far_enough x y l some far =
    let rest = mod_below x y some in
    let whole : x / y * y + x % y ≡ x = div-add-mod' x y in
    let more : (x / y + 1) * y ≤ l * y = mul-le-mul_right y far in
    omega arith

-- one multiple more
pub bounded_more : (f : ℕ → ℕ) (turns t l most value next : ℕ) → l ≡ turns * t → most ≤ next → value ≤ next → value ≡ f l →
    ((k : ℕ) → k < turns → f (k * t) ≤ most) → (k : ℕ) → k < turns + 1 → f (k * t) ≤ next
bounded_more f turns t l most value next at old new is each =
    below_more (λ k. f (k * t) ≤ next) turns (λ k h. le_trans (each k h) old)
    (subst (λ (n : ℕ). f n ≤ next) at (subst (λ (n : ℕ). n ≤ next) is new))
