-- What the paths of a version sum to.
use Rattle.std.specs.Prelude.{◌≡◌, ℕ, ◌<◌, List, [], ◌∷◌, length, Some, slice_get}
use Rattle.cat_machine.specs.declared.instr.Instr.{Instr}
use Rattle.cat_machine.specs.CodeValue.{CodeValue}
use Rattle.cat_machine.specs.Costs.{Costs, place_cost, path_cost}
use Rattle.cost_bounds.specs.Paths.{LeadsTo, turn_follows, HandlerFrom}
use Rattle.cost_bounds.specs.Pass.{Worth}
use Rattle.cost_bounds.specs.Greatest.{IsGreatest}

-- the first part of a handler's path, from a place with these turns left
pub data PartFrom (code : CodeValue) : ℕ → List ℕ → List ℕ → Type 0 where
  Stops : {pc : ℕ} {left : List ℕ} → PartFrom code pc left []
  LeadsOn : {pc next : ℕ} {left later path : List ℕ} → (i : Instr) → slice_get code.instrs pc ≡ Some i → LeadsTo (turn_follows code pc) i pc left next later → PartFrom code next later path → PartFrom code pc left (pc ∷ path)

-- of the version that begins at an entry
pub record HandlerSums (code : CodeValue) (entry : ℕ) : Type 0 where
  -- what the entry is worth is the greatest sum over the paths, whatever each class costs
  pub greatest : (u : Costs) → (c : ℕ) × Worth u code entry c × IsGreatest (HandlerFrom code entry []) (path_cost (place_cost u code)) c
  -- a path takes fewer steps than are allowed before its end
  pub few : (path : List ℕ) → PartFrom code entry [] path → length path < 1000000
