-- What holds at every moment of a calm stretch, and the premises of that.
use Rattle.std.proofs.Common.{◌≡◌, ℕ, ◌+◌, ◌-◌, ◌*◌, ◌<◌, ◌≤◌, ◌⊎◌, List, sum_by}
use Rattle.demand_core.specs.declared.Load.{Load}
use Rattle.demand_core.specs.declared.Base.{Base}
use Rattle.demand_core.specs.Demand.{sbf, rbf, dbf, block}
use Rattle.calm_stretch.specs.Loads.{AreLoads, IsAt, over, units_of}
use Rattle.event_arrivals.specs.Counts.{AreCounted}
use Rattle.calm_stretch.specs.Moment.{AreSpaced, Outside, came, gained, Doing, IsSupplied}
use Rattle.calm_stretch.proofs.Worlds.{World, taken, due, kept_in}
use Rattle.calm_stretch.specs.Moment.Doing.{Free, Job, Section, Wake, Save, Sleep}

-- how long what was chosen earlier may keep a job waiting
pub record Blocks (base : Base) (loads : List Load) : Type 0 where
  pub falls : (l m : ℕ) → l ≤ m → block base loads m ≤ block base loads l
  pub chunk : (l : ℕ) → base.longest ≤ block base loads l + 1
  pub job : (l e : ℕ) (x : Load) → IsAt loads e x → l < x.deadline → x.ticks ≤ block base loads l + 1

pub record Premises (base : Base) (loads : List Load) (reserve : ℕ) (out : Outside) (s z : ℕ) : Type 0 where
  pub are : AreLoads base loads
  pub energy : (l : ℕ) → rbf loads l ≤ reserve + sbf base l
  pub room : reserve + sum_by (λ x. x.units) loads + base.checkpoint + base.section + base.wake ≤ base.cap
  pub time : (l e : ℕ) (x : Load) → IsAt loads e x → x.deadline ≤ l → dbf loads l + block base loads l ≤ l
  pub blocks : Blocks base loads
  pub counts : AreCounted out.arrivals
  pub spaced : AreSpaced loads out
  pub supplied : IsSupplied base out s z

-- the units of the jobs that arrive before tick t
unfoldable pub arrived : List Load → Outside → ℕ → ℕ
arrived loads out t = units_of loads (λ e. came out e t)

-- the ticks of the jobs due by d, of those whose number is not below f e
unfoldable pub work_left : List Load → Outside → (ℕ → ℕ) → ℕ → ℕ
work_left loads out f d = over loads (λ e x. (came out e (d + 1 - x.deadline) - f e) * x.ticks)

-- what is unspent is within the bound of what is being done
abbrev pub Fits : Base → List Load → Doing → ℕ → ℕ → Type 0
Fits base loads Free units ticks = (units ≡ 0) × (ticks ≡ 0)
Fits base loads (Job j) units ticks = (x : Load) × IsAt loads j x × (units ≤ x.units) × (0 < ticks)
Fits base loads Section units ticks = (units ≤ base.section) × (0 < ticks)
Fits base loads Wake units ticks = (units ≤ base.wake) × (0 < ticks)
Fits base loads Save units ticks = (units ≤ base.checkpoint) × (0 < ticks)
Fits base loads Sleep units ticks = (units ≡ 0) × (0 < ticks)

-- nothing that is due by d waits, and what is being done blocks no longer than it may
abbrev pub IsIdle : Base → List Load → Outside → World → ℕ → Type 0
IsIdle base loads out w d = ((e : ℕ) (x : Load) → IsAt loads e x → due out w d e x ≤ w.done e) × (w.ticks ≤ block base loads (d - (w.tick + 1)) + 1)

-- what is being done, and all that is due by d, end by d
abbrev pub IsInTime : List Load → Outside → World → ℕ → Type 0
IsInTime loads out w d = w.tick + w.ticks + work_left loads out (taken w) d ≤ d

pub record Held (base : Base) (loads : List Load) (reserve : ℕ) (out : Outside) (s z : ℕ) (w : World) : Type 0 where
  pub fits : Fits base loads w.doing w.units w.ticks
  pub came_first : (e : ℕ) (x : Load) → IsAt loads e x → taken w e ≤ came out e (w.tick + 1)
  -- since some tick a no more than the demand was lost from the reserve
  pub energy : (a : ℕ) × (s ≤ a) × (a ≤ w.tick) ×
      (reserve + gained out.harvest w.tick + arrived loads out a + w.units + kept_in base w.doing w.dirty ≤
      w.stored + units_of loads (taken w) + gained out.harvest a)
  pub time : (d : ℕ) → w.tick ≤ d → d ≤ z → IsIdle base loads out w d ⊎ IsInTime loads out w d
