-- The loads of the events, with their numbers.
use Rattle.std.specs.Prelude.{◌≡◌, ℕ, suc, zero, ◌+◌, ◌*◌, ◌<◌, List, [], ◌∷◌, All}
use Rattle.demand_core.specs.declared.Load.{Load}
use Rattle.demand_core.specs.declared.Base.{Base}
use Rattle.demand_core.specs.Demand.{CanRepeat}

-- event e has this load
abbrev pub IsAt : List Load → ℕ → Load → Type 0
IsAt [] e y = ⊥
IsAt (x ∷ loads) zero y = x ≡ y
IsAt (x ∷ loads) (suc e) y = IsAt loads e y

-- the sum of f over the events, with their numbers and loads
unfoldable pub over : List Load → (ℕ → Load → ℕ) → ℕ
over [] f = 0
over (x ∷ loads) f = f 0 x + over loads (λ e y. f (suc e) y)

-- the units of f e jobs of each event e
unfoldable pub units_of : List Load → (ℕ → ℕ) → ℕ
units_of loads f = over loads (λ e x. f e * x.units)

-- numbers as a checked program and a device have them
pub record AreLoads (base : Base) (loads : List Load) : Type 0 where
  pub repeats : CanRepeat base loads
  pub open repeats use *
  pub longest : 0 < base.longest
  pub deadlines : All (λ x. 0 < x.deadline) loads
  pub ticks : All (λ x. 0 < x.ticks) loads
