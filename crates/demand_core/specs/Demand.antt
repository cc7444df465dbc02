-- What the events can ask for in a length of time, what is sure to be harvested in it, and when a set is feasible.
use Rattle.std.specs.Prelude.{ℕ, suc, zero, ◌+◌, ◌-◌, ◌*◌, ◌/◌, ◌<◌, ◌≡◌, ◌≤◌, List, [], ◌∷◌, sum_by, max, nat_lt, if◌then◌else◌, All, length, min, fold}
use Rattle.std.specs.Int.{◌∣◌}
use Rattle.demand_core.specs.declared.Load.{Load}
use Rattle.demand_core.specs.declared.Base.{Base}

-- the units that are sure to be harvested in l ticks
unfoldable pub sbf : Base → ℕ → ℕ
sbf base l = base.q * (l / base.p)

-- the most units of the jobs that arrive in a closed interval of length l
unfoldable pub rbf : List Load → ℕ → ℕ
rbf loads l = sum_by (λ x. (l / x.spacing + 1) * x.units) loads

-- the most ticks of the jobs that arrive and are due in a closed interval of length l
unfoldable pub dbf : List Load → ℕ → ℕ
dbf loads l = sum_by (λ x. (l + x.spacing - x.deadline) / x.spacing * x.ticks) loads

-- the longest job whose deadline is further off than l
unfoldable pub longest_job : List Load → ℕ → ℕ
longest_job [] l = 0
longest_job (x ∷ loads) l = max (if nat_lt l x.deadline then x.ticks else 0) (longest_job loads l)

-- how long a chunk that was chosen earlier may keep a job waiting that is due in l ticks
unfoldable pub block : Base → List Load → ℕ → ℕ
block base loads l = max base.longest (longest_job loads l) - 1

-- the greatest of 0 and f at the numbers below n
unfoldable pub most : (ℕ → ℕ) → ℕ → ℕ
most f zero = 0
most f (suc n) = max (most f n) (f n)

-- the units that have to be kept back
unfoldable pub reserve : Base → List Load → ℕ → ℕ
reserve base loads window = most (λ l. rbf loads l - sbf base l) window

-- what demand and supply repeat by
pub record CanRepeat (base : Base) (loads : List Load) : Type 0 where
  pub p : 0 < base.p
  pub spacings : All (λ x. 0 < x.spacing) loads
  pub within : All (λ x. x.deadline ≤ x.spacing) loads

-- the least common multiple of p and all spacings
pub record IsWindow (p : ℕ) (loads : List Load) (window : ℕ) : Type 0 where
  pub positive : 0 < window
  pub of_p : p ∣ window
  pub of_spacings : All (λ x. x.spacing ∣ window) loads
  pub least : (n : ℕ) → 0 < n → p ∣ n → All (λ x. x.spacing ∣ n) loads → window ≤ n

-- the least deadline of the events, if there are any
unfoldable pub least_deadline : List Load → ℕ
least_deadline [] = 0
least_deadline (x ∷ loads) = fold (λ d y. min d y.deadline) x.deadline loads

-- at this length the work that is due fits
abbrev pub FitsAt : Base → List Load → ℕ → Type 0
FitsAt base loads l = dbf loads l + block base loads l ≤ l

-- a job of this event can be due just when l ticks have passed
abbrev pub IsDueAt : ℕ → Load → Type 0
IsDueAt l x = (k : ℕ) × (l ≡ x.deadline + k * x.spacing)

-- what the jobs of a window draw and take, and what the store has to hold
abbrev pub energy_use : List Load → ℕ → ℕ
energy_use loads window = sum_by (λ x. window / x.spacing * x.units) loads

abbrev pub time_use : List Load → ℕ → ℕ
time_use loads window = sum_by (λ x. window / x.spacing * x.ticks) loads

abbrev pub room_use : Base → List Load → ℕ → ℕ
room_use base loads window = reserve base loads window + sum_by (λ x. x.units) loads + base.checkpoint + base.section + base.wake

-- the harvest of a window pays for its jobs, the store holds what is kept back beside one job of each event, and there is time for the work
pub record IsFeasible (base : Base) (loads : List Load) (window : ℕ) : Type 0 where
  pub energy : energy_use loads window ≤ base.q * (window / base.p)
  pub room : room_use base loads window ≤ base.cap
  pub busy : time_use loads window ≤ window
  pub due : (l : ℕ) → 0 < length loads → least_deadline loads ≤ l → l < least_deadline loads + window → FitsAt base loads l
