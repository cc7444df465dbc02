use Rattle.std.proofs.Common.{◌≡◌, ℕ, ◌-◌, ◌*◌, ◌/◌, ◌≤◌, ap₂, subst, arith}
use Rattle.demand_core.specs.Demand.{energy_use}
use Rattle.feasibility.proofs.Lists.{far_enough}
use Rattle.feasibility.proofs.kept.ample_from.Goals as goal

pub returns-then-far-from-clause-ample : goal.returns-then-far-from-clause-ample
returns-then-far-from-clause-ample c l from below =
    let q : ℕ = c.args.base.now.q in
    let supplied : c.from.result * c.from-2.result ≡ c.args.base.now.q * (c.args.window / c.args.base.now.p) = ap₂ (λ (a b : ℕ). a * b) c.from.ensures c.from-2.ensures in
    let asked : c.from-3.result * c.from-4.result ≡ c.args.base.now.q * c.args.window = ap₂ (λ (a b : ℕ). a * b) c.from-3.ensures c.from-4.ensures in
    let used : c.energy_use-used.result ≡ energy_use c.args.loads.now c.args.window = c.energy_use-used.ensures.value in
    let spare : c.from.result * c.from-2.result - c.energy_use-used.result ≡ c.args.base.now.q * (c.args.window / c.args.base.now.p) - energy_use c.args.loads.now c.args.window = omega arith in
    let far = far_enough (c.from-3.result * c.from-4.result) (c.from.result * c.from-2.result - c.energy_use-used.result) l (omega arith) from in
    let far' = subst (λ (n : ℕ). c.from-3.result * c.from-4.result ≤ l * n) spare far in
    c.ample_law.ensures.energy c.args.base.now c.args.loads.now c.args.window l c.requires.repeats c.requires.window (omega arith) (omega arith)
