-- Euclid's steps, and the least common multiple that the greatest common divisor gives.
use Rattle.std.proofs.Common.{◌≡◌, ℕ, zero, suc, ◌+◌, ◌*◌, ◌/◌, ◌%◌, ◌<◌, subst, arith}
use Rattle.std.specs.Int.{◌∣◌}
use native.Mathlib.Nat.{dvd-mul_left, dvd-mul_right, dvd-mul_right_of_dvd, dvd-mod_iff, div-add-mod, dvd-add_iff_right, dvd_of_mul-dvd-mul_left, mul-dvd-mul_left, mul-dvd-mul_right, mul-div_cancel', le_of_dvd}
use Rattle.demand_core.specs.Multiples.{IsCommon, IsLeastCommon, DividesWith}

-- what divides both numbers, and divides whatever both divide with a factor
pub record Divides (a b g : ℕ) : Type 0 where
  pub of_a : g ∣ a
  pub of_b : g ∣ b
  pub greatest : DividesWith a b g

pub divides_end : (a b : ℕ) → b ≡ 0 → Divides a b a
divides_end a b none =
    record {
      of_a = subst (λ (n : ℕ). a ∣ n) (omega arith) (dvd-mul_right a 1);
      of_b = subst (λ (n : ℕ). a ∣ n) (omega arith) (dvd-mul_right a 0);
      greatest = λ c k of_a of_b. of_a;
    }

-- one step by a remainder
pub divides_step : (a b g : ℕ) → Divides b (a % b) g → Divides a b g
divides_step a b g is =
    record {
      of_a = (dvd-mod_iff g is.of_a).0 is.of_b;
      of_b = is.of_a;
      greatest = λ c k of_a of_b. is.greatest c k of_b (rest c k of_a of_b);
    }
  where
    rest : (c k : ℕ) → c ∣ a * k → c ∣ b * k → c ∣ a % b * k
    rest c k of_a of_b =
        let whole : a ≡ b * (a / b) + a % b = omega (arith, div-add-mod a b) in
        let split : a * k ≡ b * k * (a / b) + a % b * k = grind arith in
        (dvd-add_iff_right c (dvd-mul_right_of_dvd c of_b (a / b))).1 (subst (λ (n : ℕ). c ∣ n) split of_a)

-- both factors of a positive product are positive
factors : (g q n : ℕ) → 0 < n → g * q ≡ n → (0 < g) × (0 < q)
factors zero q n some is = absurd (omega arith)
factors (suc g) zero n some is = let none : suc g * 0 ≡ 0 = omega arith in absurd (omega arith)
factors (suc g) (suc q) n some is = (omega arith, omega arith)

product_positive : (a b : ℕ) → 0 < a → 0 < b → 0 < a * b
product_positive zero b some more = absurd (omega arith)
product_positive (suc a) b some more = omega arith

pub divisor_positive : (a b g : ℕ) → 0 < a → Divides a b g → 0 < g
divisor_positive a b g some is = (factors g (a / g) a some (mul-div_cancel' g is.of_a)).0

-- what is left of one number when the greatest common divisor is taken out, times the other
pub least_common : (a b g : ℕ) → 0 < a → 0 < b → Divides a b g → IsLeastCommon a b (a / g * b)
least_common a b g some more is = (
  (product_positive (a / g) b (factors g (a / g) a some of_a).1 more, subst (λ (n : ℕ). a ∣ n) whole_b (dvd-mul_right a (b / g)), dvd-mul_left b (a / g)),
  λ n common. le_of_dvd common.0 (divides n common),
)
  where
    of_a : g * (a / g) ≡ a
    of_a = mul-div_cancel' g is.of_a

    of_b : g * (b / g) ≡ b
    of_b = mul-div_cancel' g is.of_b

    shuffle : (u v w m n : ℕ) → g * u ≡ m → g * v ≡ n → m * v ≡ u * n
    shuffle u v w m n one other = rw (← one, ← other) (grind arith)

    whole_b : a * (b / g) ≡ a / g * b
    whole_b = shuffle (a / g) (b / g) g a b of_a of_b

    divides : (n : ℕ) → IsCommon a b n → a / g * b ∣ n
    divides n common =
        let one : a * b ∣ a * n = mul-dvd-mul_left b a common.2 in
        let turned : n * b ≡ b * n = grind arith in
        let other : a * b ∣ b * n = subst (λ (m : ℕ). a * b ∣ m) turned (mul-dvd-mul_right a common.1 b) in
        let both : a * b ∣ g * n = is.greatest (a * b) n one other in
        let regroup : g * (a / g) * b ≡ g * (a / g * b) = grind arith in
        let same : a * b ≡ g * (a / g * b) = subst (λ (m : ℕ). m * b ≡ g * (a / g * b)) of_a regroup in
        dvd_of_mul-dvd-mul_left (a / g * b) (divisor_positive a b g some is) (subst (λ (m : ℕ). m ∣ g * n) same both)
