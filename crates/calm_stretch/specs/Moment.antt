-- What the deadlines rest on: the arrivals and the harvest, and the run at its decision points.
use Rattle.std.specs.Prelude.{◌≡◌, ℕ, suc, zero, ◌+◌, ◌-◌, ◌≤◌, List, Bool, nat_eq, if◌then◌else◌, Some}
use Rattle.event_arrivals.specs.Arrivals.{Lists, arrival_at}
use Rattle.event_arrivals.specs.Counts.{came as came_of}
use Rattle.event_arrivals.specs.Kept.{spacing_at}
use Rattle.event_arrivals.specs.declared.arrival.Arrival.{Arrival}
use Rattle.demand_core.specs.declared.Load.{Load}
use Rattle.demand_core.specs.declared.Base.{Base}
use Rattle.calm_stretch.specs.Loads.{IsAt, units_of}

-- ---- what the run does not choose

-- the arrivals, and the harvest of each tick
pub record Outside : Type 0 where
  pub arrivals : Lists
  pub harvest : ℕ → ℕ

-- how many arrivals of event e come before tick t
abbrev pub came : Outside → ℕ → ℕ → ℕ
came out e t = came_of out.arrivals e t

-- the arrival with number k of event e is at tick a
abbrev pub IsArrival : Outside → ℕ → ℕ → ℕ → Type 0
IsArrival out e k a = (arrival : Arrival) × (arrival_at out.arrivals e k ≡ Some arrival) × (arrival.tick ≡ a)

-- the loads have the events' spacings
abbrev pub AreSpaced : List Load → Outside → Type 0
AreSpaced loads out = (e : ℕ) (x : Load) → IsAt loads e x → spacing_at out.arrivals.timings e ≡ x.spacing

-- the units of all ticks before t
unfoldable pub gained : (ℕ → ℕ) → ℕ → ℕ
gained harvest zero = 0
gained harvest (suc t) = gained harvest t + harvest t

-- p ticks in a row that lie in the stretch give at least q
abbrev pub IsSupplied : Base → Outside → ℕ → ℕ → Type 0
IsSupplied base out s z = (t : ℕ) → s ≤ t → t + base.p ≤ z → gained out.harvest t + base.q ≤ gained out.harvest (t + base.p)

-- ---- the run

-- what a decision leads to; Free is the decision itself
pub data Doing : Type 0 where
  Free : Doing
  Job : ℕ → Doing
  Section : Doing
  Wake : Doing
  Save : Doing
  Sleep : Doing

-- a decision point
pub record Point : Type 0 where
  pub tick : ℕ
  pub stored : ℕ
  -- whether something is left to save
  pub dirty : Bool
  -- how many jobs of each event are done
  pub done : ℕ → ℕ

-- how many jobs of event e are done or being done
abbrev pub taken_in : Doing → (ℕ → ℕ) → ℕ → ℕ
taken_in Free done e = done e
taken_in (Job j) done e = if nat_eq e j then done e + 1 else done e
taken_in Section done e = done e
taken_in Wake done e = done e
taken_in Save done e = done e
taken_in Sleep done e = done e

-- nothing is pending
abbrev pub NonePending : Outside → List Load → Point → Type 0
NonePending out loads p = (e : ℕ) (x : Load) → IsAt loads e x → came out e (p.tick + 1) ≤ p.done e

-- the units that are kept for a checkpoint
abbrev pub kept_at : Base → Bool → ℕ
kept_at base dirty = if dirty then base.checkpoint else 0

-- there is enough for all that is pending, and for a checkpoint if one is to come
abbrev pub HasEnough : Base → List Load → Outside → Point → Type 0
HasEnough base loads out p = units_of loads (λ e. came out e (p.tick + 1) - p.done e) + kept_at base p.dirty ≤ p.stored
