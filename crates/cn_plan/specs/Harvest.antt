-- A set's tests with another harvest, and the least harvest with which a set is feasible.
use Rattle.std.specs.Prelude.{◌≡◌, ℕ, ◌+◌, ◌-◌, ◌<◌, ◌≤◌, List, length, Option, Some, None}
use Rattle.demand_core.specs.declared.Load.{Load}
use Rattle.demand_core.specs.declared.Base.{Base}
use Rattle.demand_core.specs.Demand.{least_deadline, time_use, FitsAt, IsFeasible}
use Rattle.feasibility.specs.declared.decide.Verdict.{Verdict}
use Rattle.feasibility.specs.Verdicts.{IsVerdict}

-- the same device, where in every p ticks in a row at least this many units are harvested
abbrev pub with_harvest : Base → ℕ → Base
with_harvest base q =
    record {
      cap = base.cap;
      p = base.p;
      q = q;
      checkpoint = base.checkpoint;
      section = base.section;
      wake = base.wake;
      longest = base.longest;
    }

-- the third test: there is time for the work of a window, and at each length for what is due in it
pub record HasTime (base : Base) (loads : List Load) (window : ℕ) : Type 0 where
  pub busy : time_use loads window ≤ window
  pub due : (l : ℕ) → 0 < length loads → least_deadline loads ≤ l → l < least_deadline loads + window → FitsAt base loads l

-- with this harvest the set is feasible
abbrev pub IsEnough : Base → List Load → ℕ → ℕ → Type 0
IsEnough base loads window q = IsFeasible (with_harvest base q) loads window

-- the verdict on the set with this harvest
abbrev pub IsVerdictAt : Base → List Load → ℕ → ℕ → Verdict → Type 0
IsVerdictAt base loads window q verdict = IsVerdict (with_harvest base q) loads window verdict

-- why no smaller harvest need be looked at: the verdict on the next smaller one, if there is one
abbrev pub IsCertificate : Base → List Load → ℕ → ℕ → Option Verdict → Type 0
IsCertificate base loads window q None = q ≡ 0
IsCertificate base loads window q (Some verdict) = (0 < q) × IsVerdictAt base loads window (q - 1) verdict

-- the least harvest up to the greatest that is looked at, with its certificate
pub record IsLeastHarvest (base : Base) (loads : List Load) (window q : ℕ) (below : Option Verdict) : Type 0 where
  pub within : q ≤ 1000000
  pub enough : IsEnough base loads window q
  pub least : (less : ℕ) → less < q → IsEnough base loads window less → ⊥
  pub certificate : IsCertificate base loads window q below

-- no harvest is enough, and this is the verdict on the greatest
pub record IsNoHarvest (base : Base) (loads : List Load) (window : ℕ) (verdict : Verdict) : Type 0 where
  pub none : (q : ℕ) → q ≤ 1000000 → IsEnough base loads window q → ⊥
  pub greatest : IsVerdictAt base loads window 1000000 verdict
