-- The run tick by tick: what is being done, and how much of its bound is left.
use Rattle.std.specs.Prelude.{◌≡◌, ℕ, ◌+◌, ◌-◌, ◌<◌, ◌≤◌, ◌⊎◌, List, Bool, true, false, if◌then◌else◌, min}
use Rattle.demand_core.specs.declared.Load.{Load}
use Rattle.demand_core.specs.declared.Base.{Base}
use Rattle.calm_stretch.specs.Loads.{IsAt}
use Rattle.calm_stretch.specs.Moment.{Outside, came, IsArrival, Doing, Point, taken_in}
use Rattle.calm_stretch.specs.Moment.Doing.{Free, Job, Section, Wake, Save, Sleep}

pub record World : Type 0 where
  pub tick : ℕ
  pub stored : ℕ
  pub doing : Doing
  -- the unspent bound of what is being done, in units and in ticks
  pub units : ℕ
  pub ticks : ℕ
  pub dirty : Bool
  pub done : ℕ → ℕ

-- a decision point
abbrev pub at_point : Point → World
at_point p = record { tick = p.tick; stored = p.stored; doing = Free; units = 0; ticks = 0; dirty = p.dirty; done = p.done }

abbrev pub taken : World → ℕ → ℕ
taken w e = taken_in w.doing w.done e

-- nothing is pending
abbrev pub NonePending : Outside → List Load → World → Type 0
NonePending out loads w = (e : ℕ) (x : Load) → IsAt loads e x → came out e (w.tick + 1) ≤ w.done e

-- an arrival of event e is pending
abbrev pub IsPending : Outside → World → ℕ → Type 0
IsPending out w e = w.done e < came out e (w.tick + 1)

-- how many arrivals of event e, with load x, have come and are due by tick d
abbrev pub due : Outside → World → ℕ → ℕ → Load → ℕ
due out w d e x = came out e (min (w.tick + 1) (d + 1 - x.deadline))

-- one is pending, and too dear
abbrev pub IsShort : Outside → List Load → World → Type 0
IsShort out loads w = (e : ℕ) × (x : Load) × IsAt loads e x × IsPending out w e × (w.stored < x.units)

-- what the policy lets begin at a decision point, with its bound in units and in ticks
abbrev pub MayBegin : Base → List Load → ℕ → Outside → World → Doing → ℕ → ℕ → Type 0
MayBegin base loads reserve out w Free units ticks = ⊥
-- the job that is due first: it is due by d wherever some pending one is
MayBegin base loads reserve out w (Job j) units ticks =
    (x : Load) × IsAt loads j x × IsPending out w j ×
    ((d e : ℕ) (y : Load) → IsAt loads e y → w.done e < due out w d e y → w.done j < due out w d j x) ×
    (units ≤ x.units) × (ticks ≤ x.ticks)
MayBegin base loads reserve out w Section units ticks =
    NonePending out loads w × (reserve + base.checkpoint + base.section ≤ w.stored) × (units ≤ base.section) × (ticks ≤ base.longest)
MayBegin base loads reserve out w Wake units ticks =
    NonePending out loads w × (reserve + base.checkpoint + base.section + base.wake ≤ w.stored) × (w.dirty ≡ false) × (units ≤ base.wake) × (ticks ≤ base.longest)
MayBegin base loads reserve out w Save units ticks =
    (NonePending out loads w ⊎ IsShort out loads w) × (w.dirty ≡ true) × (units ≤ base.checkpoint) × (ticks ≤ base.longest)
MayBegin base loads reserve out w Sleep units ticks =
    (NonePending out loads w ⊎ IsShort out loads w) × (w.dirty ≡ false) × (units ≡ 0) × (ticks ≤ base.longest)

-- what is being done goes on after this tick
pub record Continues (w v : World) (bound : ℕ) : Type 0 where
  pub doing : v.doing ≡ w.doing
  pub units : v.units + bound ≤ w.units
  pub ticks : v.ticks + 1 ≤ w.ticks
  pub some : 0 < v.ticks
  pub dirty : v.dirty ≡ w.dirty
  pub done : (e : ℕ) → v.done e ≡ w.done e

-- it ends with this tick
pub record Ends (w v : World) : Type 0 where
  pub doing : v.doing ≡ Free
  pub units : v.units ≡ 0
  pub ticks : v.ticks ≡ 0
  -- only a section leaves something to save
  pub dirty : v.dirty ≡ true → w.doing ≡ Section
  pub done : (e : ℕ) → v.done e ≡ taken w e

-- one tick, in which an operation of this bound begins (0: none does): it draws no more, the harvest is added, and the store is cut to the cap
pub record Passes (base : Base) (out : Outside) (w v : World) (bound : ℕ) : Type 0 where
  pub drawn : ℕ
  pub bounded : drawn ≤ bound
  pub tick : v.tick ≡ w.tick + 1
  pub stored : v.stored ≡ min base.cap (w.stored - drawn + out.harvest w.tick)
  pub rest : Continues w v bound ⊎ Ends w v

-- the units that are kept for a checkpoint
abbrev pub kept_in : Base → Doing → Bool → ℕ
kept_in base Free dirty = if dirty then base.checkpoint else 0
kept_in base (Job j) dirty = if dirty then base.checkpoint else 0
kept_in base Section dirty = base.checkpoint
kept_in base Wake dirty = 0
kept_in base Save dirty = 0
kept_in base Sleep dirty = 0

-- the job that is due first, where one row is in force
pub record IsNext (loads : List Load) (out : Outside) (w : World) (j : ℕ) (x : Load) : Type 0 where
  pub at : IsAt loads j x
  pub arrival : ℕ
  pub is : IsArrival out j (w.done j) arrival
  pub pending : arrival ≤ w.tick
  pub first : (e : ℕ) (y : Load) (b : ℕ) → IsAt loads e y → IsArrival out e (w.done e) b → b ≤ w.tick → arrival + x.deadline ≤ b + y.deadline
