-- What a verdict on a set says.
use Rattle.std.specs.Prelude.{◌≡◌, ℕ, ◌+◌, ◌*◌, ◌/◌, ◌<◌, ◌≤◌, ◌⊎◌, List, length}
use Rattle.demand_core.specs.declared.Load.{Load}
use Rattle.demand_core.specs.declared.Base.{Base}
use Rattle.feasibility.specs.declared.decide.Verdict.{Verdict}
use Rattle.feasibility.specs.declared.decide.Verdict.TheVariants.{Yes, F1, F2, F3}
use Rattle.demand_core.specs.Demand.{dbf, block, least_deadline, energy_use, time_use, room_use, FitsAt, IsFeasible}

-- the first length from the least deadline on at which the work that is due does not fit, within a window
pub record IsFirstLate (base : Base) (loads : List Load) (window at : ℕ) : Type 0 where
  pub some : 0 < length loads
  pub from : least_deadline loads ≤ at
  pub within : at < least_deadline loads + window
  pub before : (l : ℕ) → least_deadline loads ≤ l → l < at → FitsAt base loads l
  pub late : at < dbf loads at + block base loads at

-- all is well, or this is the first inequality that fails, with both sides
abbrev pub IsVerdict : Base → List Load → ℕ → Verdict → Type 0
IsVerdict base loads window Yes = IsFeasible base loads window
IsVerdict base loads window (F1 left right) = (left ≡ energy_use loads window) × (right ≡ base.q * (window / base.p)) × (right < left)
IsVerdict base loads window (F2 left right) =
    (energy_use loads window ≤ base.q * (window / base.p)) × (left ≡ room_use base loads window) × (right ≡ base.cap) × (right < left)
IsVerdict base loads window (F3 at left right) =
    (energy_use loads window ≤ base.q * (window / base.p)) × (room_use base loads window ≤ base.cap) ×
    (((at ≡ 0) × (left ≡ time_use loads window) × (right ≡ window) × (right < left)) ⊎
    ((time_use loads window ≤ window) × IsFirstLate base loads window at × (left ≡ dbf loads at + block base loads at) × (right ≡ at)))

-- where the verdict is yes
abbrev pub OnYes : Verdict → Type 0 → Type 0
OnYes Yes P = P
OnYes (F1 left right) P = Unit {0}
OnYes (F2 left right) P = Unit {0}
OnYes (F3 at left right) P = Unit {0}

-- both sides of an inequality that fails are below the bound
abbrev pub SidesAreBelow : ℕ → Verdict → Type 0
SidesAreBelow bound Yes = Unit {0}
SidesAreBelow bound (F1 left right) = (left < bound) × (right < bound)
SidesAreBelow bound (F2 left right) = (left < bound) × (right < bound)
SidesAreBelow bound (F3 at left right) = (left < bound) × (right < bound)
