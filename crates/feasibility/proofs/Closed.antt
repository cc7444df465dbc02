-- What a yes promises at every length.
use Rattle.std.proofs.Common.{ℕ, List}
use Rattle.demand_core.specs.declared.Load.{Load}
use Rattle.demand_core.specs.declared.Base.{Base}
use Rattle.feasibility.specs.declared.decide.Verdict.{Verdict}
use Rattle.feasibility.specs.declared.decide.Verdict.TheVariants.{Yes, F1, F2, F3}
use Rattle.demand_core.specs.Demand.{IsFeasible}
use Rattle.feasibility.specs.Verdicts.{IsVerdict, OnYes}

pub yes_gives : (base : Base) (loads : List Load) (window : ℕ) (verdict : Verdict) (P : Type 0) → (IsFeasible base loads window → P) →
    IsVerdict base loads window verdict → OnYes verdict P
yes_gives base loads window Yes P gives verdict = gives verdict
yes_gives base loads window (F1 left right) P gives verdict = tt
yes_gives base loads window (F2 left right) P gives verdict = tt
yes_gives base loads window (F3 at left right) P gives verdict = tt
