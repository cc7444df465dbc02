-- Spacings and deadlines are no longer than a window.
use Rattle.std.proofs.Common.{ℕ, ◌≤◌, List, All, arith}
use Rattle.std.proofs.lemmas.Nat.Gcd.{le_of_dvd}
use Rattle.demand_core.specs.declared.Load.{Load}
use Rattle.demand_core.specs.declared.Base.{Base}
use Rattle.demand_core.specs.Demand.{CanRepeat, IsWindow}

pub spacings_short : (p : ℕ) (loads : List Load) (window limit : ℕ) → IsWindow p loads window → window ≤ limit → All (λ x. x.spacing ≤ limit) loads
spacings_short p loads window limit is short k d within =
    let le = le_of_dvd is.positive (is.of_spacings k d within) in omega arith

pub deadlines_short : (base : Base) (loads : List Load) (window limit : ℕ) → CanRepeat base loads → IsWindow base.p loads window → window ≤ limit →
    All (λ x. x.deadline ≤ limit) loads
deadlines_short base loads window limit are is short k d within =
    let spacing = spacings_short base.p loads window limit is short k d within in
    let deadline = are.within k d within in
    omega arith
