-- Demand as sums over the events.
use Rattle.std.proofs.Common.{◌≡◌, ℕ, ◌+◌, ◌-◌, ◌*◌, ◌/◌, List, sym}
use Rattle.demand_core.specs.declared.Load.{Load}
use Rattle.demand_core.specs.Demand.{rbf, dbf}
use Rattle.calm_stretch.specs.Loads.{over}
use Rattle.calm_stretch.proofs.Sums.{over_is}

pub rbf_is : (loads : List Load) (l : ℕ) → rbf loads l ≡ over loads (λ e x. (l / x.spacing + 1) * x.units)
unfolding rbf
rbf_is loads l = sym (over_is loads (λ x. (l / x.spacing + 1) * x.units))

pub dbf_is : (loads : List Load) (l : ℕ) → dbf loads l ≡ over loads (λ e x. (l + x.spacing - x.deadline) / x.spacing * x.ticks)
unfolding dbf
dbf_is loads l = sym (over_is loads (λ x. (l + x.spacing - x.deadline) / x.spacing * x.ticks))
