use Rattle.std.proofs.Common.{◌≡◌, ℕ, ◌*◌, ◌+◌, ◌≤◌, arith, sym, subst, ap, ap₂}
use Rattle.demand_core.specs.Demand.{rbf, energy_use}
use Rattle.feasibility.proofs.kept.most_with.Goals as goal

pub returns-then-is_covered-clause-value : goal.returns-then-is_covered-clause-value
returns-then-is_covered-clause-value c =
    let grows = c.ample_law.ensures.grows c.args.base.now c.args.loads.now c.args.growth.now.window c.args.l c.requires.repeats c.requires.window in
    let one : c.args.growth.now.first * c.args.growth.now.window ≡ rbf c.args.loads.now 0 * c.args.growth.now.window = ap (λ (n : ℕ). n * c.args.growth.now.window) c.requires.first in
    let two : c.args.l * c.args.growth.now.used ≡ c.args.l * energy_use c.args.loads.now c.args.growth.now.window = ap (λ (n : ℕ). c.args.l * n) c.requires.used in
    let covered = c.is_covered.ensures (rbf c.args.loads.now c.args.l) c.if-is_covered.true (omega arith) in
    omega arith
