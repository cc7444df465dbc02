-- Least common multiples.
use Rattle.std.specs.Prelude.{◌≡◌, ℕ, ◌+◌, ◌*◌, ◌<◌, ◌≤◌, List, length, take, slice_get, Some, All}
use Rattle.std.specs.Int.{◌∣◌}
use Rattle.demand_core.specs.declared.Load.{Load}
use Rattle.demand_core.specs.Demand.{IsWindow}

abbrev pub IsCommon : ℕ → ℕ → ℕ → Type 0
IsCommon a b m = (0 < m) × (a ∣ m) × (b ∣ m)

abbrev pub IsLeastCommon : ℕ → ℕ → ℕ → Type 0
IsLeastCommon a b m = IsCommon a b m × ((n : ℕ) → IsCommon a b n → m ≤ n)

-- what divides both multiples by k divides this one too: so the greatest common divisor divides as no smaller one does
abbrev pub DividesWith : ℕ → ℕ → ℕ → Type 0
DividesWith a b g = (c k : ℕ) → c ∣ a * k → c ∣ b * k → c ∣ g * k

-- a positive multiple of p and of each spacing
abbrev pub IsCommonOf : ℕ → List Load → ℕ → Type 0
IsCommonOf p loads m = (0 < m) × (p ∣ m) × All (λ x. x.spacing ∣ m) loads

-- the spacing is the first in order at which the least common multiple exceeds the limit
pub record IsTooLong (p : ℕ) (loads : List Load) (limit spacing : ℕ) : Type 0 where
  pub index : ℕ
  pub load : Load
  pub is : slice_get loads index ≡ Some load
  pub within : index < length loads
  pub spacing_is : spacing ≡ load.spacing
  pub before : ℕ
  pub before_is : IsWindow p (take index loads) before
  pub before_short : before ≤ limit
  pub exceeds : (m : ℕ) → IsCommonOf p (take (index + 1) loads) m → limit < m
