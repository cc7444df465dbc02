-- What the choice of versions answers.
use Rattle.std.specs.Prelude.{◌≡◌, ℕ, List, length}
use Rattle.demand_core.specs.declared.Load.{Load}
use Rattle.demand_core.specs.declared.Base.{Base}
use Rattle.feasibility.specs.declared.choose.Tried.{Tried}
use Rattle.feasibility.specs.declared.choose.Tried.TheVariants.{Fits, Fails}
use Rattle.feasibility.specs.declared.choose.ChooseFault.{ChooseFault}
use Rattle.feasibility.specs.declared.choose.ChooseFault.TheVariants.{WindowTooLong, Rejected, NoMemory}
use Rattle.demand_core.specs.Demand.{IsFeasible}
use Rattle.demand_core.specs.Multiples.{IsTooLong}
use Rattle.feasibility.specs.Verdicts.{IsVerdict}
use Rattle.feasibility.specs.Chosen.{loads_of, vector_loads, IsVector, IsRejected}

-- the vector after a front of the order, or the verdict on its loads, which are not feasible
abbrev pub IsTried : Base → List (List Load) → List ℕ → ℕ → Tried → Type 0
IsTried base tables front window (Fits vector) = IsVector base tables front vector × (vector.window ≡ window)
IsTried base tables front window (Fails verdict) =
    IsVerdict base (loads_of tables front (length tables)) window verdict × (IsFeasible base (loads_of tables front (length tables)) window → ⊥)

-- why no versions were chosen
abbrev pub IsFault : Base → List (List Load) → List ℕ → ChooseFault → Type 0
IsFault base tables order (WindowTooLong spacing) = IsTooLong base.p (vector_loads tables order 0) 1000000 spacing
IsFault base tables order (Rejected verdict) = IsRejected base tables order verdict
IsFault base tables order NoMemory = Unit {0}
