use Rattle.std.proofs.Common.{◌≡◌, ℕ, ◌*◌, ◌/◌, ◌<◌, arith, ap₂, sym, subst}
use Rattle.demand_core.specs.Multiples.{IsCommon, IsLeastCommon}
use Rattle.demand_core.proofs.Divisors.{Divides, divisor_positive, least_common}
use Rattle.demand_core.proofs.multiple.lcm_to.Goals as goal

-- the product that the code makes
least_product : (a b g m n : ℕ) → 0 < a → 0 < b → Divides a b g → m ≡ a / g → n ≡ b → IsLeastCommon a b (m * n)
least_product a b g m n some more is one other =
    subst (λ (l : ℕ). IsLeastCommon a b l) (ap₂ (λ (u v : ℕ). u * v) (sym one) (sym other)) (least_common a b g some more is)

above : (a b l limit other : ℕ) → other ≡ limit → other < l → IsLeastCommon a b l → (m : ℕ) → IsCommon a b m → limit < m
above a b l limit other same greater least m common = let le = least.1 m common in omega arith

pub nonzero_div-a : goal.nonzero_div-a
nonzero_div-a c =
    divisor_positive c.args.a c.args.b c.gcd-divisor.result c.requires.a_positive
    (record { of_a = c.gcd-divisor.ensures.of_a; of_b = c.gcd-divisor.ensures.of_b; greatest = c.gcd-divisor.ensures.greatest })

pub returns-then-multiple-from : goal.returns-then-multiple-from
returns-then-multiple-from c = (
  omega arith,
  least_product c.args.a c.args.b c.gcd-divisor.result c.from.result c.from-2.result c.requires.a_positive c.requires.b_positive
      (record { of_a = c.gcd-divisor.ensures.of_a; of_b = c.gcd-divisor.ensures.of_b; greatest = c.gcd-divisor.ensures.greatest })
      c.from.ensures c.from-2.ensures,
)

pub returns-else-multiple-from : goal.returns-else-multiple-from
returns-else-multiple-from c =
    above c.args.a c.args.b (c.from.result * c.from-2.result) c.args.limit c.from-3.result c.from-3.ensures c.if-multiple-from.false
    (least_product c.args.a c.args.b c.gcd-divisor.result c.from.result c.from-2.result c.requires.a_positive c.requires.b_positive
    (record { of_a = c.gcd-divisor.ensures.of_a; of_b = c.gcd-divisor.ensures.of_b; greatest = c.gcd-divisor.ensures.greatest })
    c.from.ensures c.from-2.ensures)
