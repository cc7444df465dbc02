-- A verdict that is no yes says that the set is not feasible.
use Rattle.std.proofs.Common.{◌≡◌, ℕ, inl, inr, List, refl, arith}
use Rattle.demand_core.specs.declared.Load.{Load}
use Rattle.demand_core.specs.declared.Base.{Base}
use Rattle.feasibility.specs.declared.decide.Verdict.{Verdict}
use Rattle.feasibility.specs.declared.decide.Verdict.TheVariants.{Yes, F1, F2, F3}
use Rattle.demand_core.specs.Demand.{IsFeasible}
use Rattle.feasibility.specs.Verdicts.{IsVerdict}

pub refused : (base : Base) (loads : List Load) (window : ℕ) (verdict : Verdict) → (verdict ≡ Yes → ⊥) → IsVerdict base loads window verdict →
    IsFeasible base loads window → ⊥
refused base loads window Yes not_yes verdict is = not_yes refl
refused base loads window (F1 left right) not_yes verdict is = let energy = is.energy in omega arith
refused base loads window (F2 left right) not_yes verdict is = let room = is.room in omega arith
refused base loads window (F3 at left right) not_yes verdict is =
    elim (verdict.2) [
      | inl busy ↦ let fits = is.busy in omega arith
      | inr late ↦
          let first = late.1 in
          let fits = is.due at first.some first.from first.within in
          let above = first.late in
          omega arith
    ]
