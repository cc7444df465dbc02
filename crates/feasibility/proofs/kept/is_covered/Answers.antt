use Rattle.std.proofs.Common.{◌≡◌, ℕ, suc, ◌*◌, ◌/◌, ◌+◌, ◌-◌, ◌<◌, ◌≤◌, inl, inr, ap, ap₂, ◌∙◌, arith, mul-le-mul_right}
use Rattle.std.proofs.lemmas.Bool.{cases_lt, leb-true}
use Rattle.demand_core.specs.Demand.{sbf}
use Rattle.feasibility.proofs.kept.is_covered.Goals as goal

-- a bound on a product with a window is one on the factor
covered : (requests first used window l most supply a b d e : ℕ) → 0 < window → a ≡ window → b ≡ l → d ≡ supply → e ≡ window →
    first * a + used * b ≤ (most + d) * e → requests * window ≤ first * window + l * used → requests - supply ≤ most
covered requests first used window l most supply a b d e some is_a is_b is_d is_e test grows =
    let one : first * a ≡ first * window = ap (λ (n : ℕ). first * n) is_a in
    let two : used * b ≡ used * l = ap (λ (n : ℕ). used * n) is_b in
    let three : (most + d) * e ≡ (most + supply) * window = ap₂ (λ (m n : ℕ). (most + m) * n) is_d is_e in
    elim (cases_lt (most + supply) requests) [
      | inl above ↦
          let more : suc (most + supply) * window ≤ requests * window = mul-le-mul_right window above in
          absurd (omega arith)
      | inr within ↦ omega arith
    ]

pub returns : goal.returns
unfolding sbf
returns c requests holds grows =
    covered requests c.args.growth.now.first c.args.growth.now.used c.args.growth.now.window c.args.l c.args.most (sbf c.args.base.now c.args.l)
    c.from-3.result c.from-4.result c.from-5.result c.from-6.result c.requires.window c.from-3.ensures c.from-4.ensures
    (c.from-5.ensures ∙ ap₂ (λ (m n : ℕ). m * n) c.from.ensures c.from-2.ensures) c.from-6.ensures (leb-true _ _ holds) grows
