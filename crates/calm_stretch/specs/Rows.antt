-- Timelines by rows: at each tick a row of numbers is in force, and an arrival goes by the row of its own tick.
use Rattle.std.specs.Prelude.{◌≡◌, ℕ, ◌+◌, ◌<◌, ◌≤◌, ◌⊎◌, List, [], ◌∷◌, length, true, false, if◌then◌else◌}
use Rattle.demand_core.specs.declared.Load.{Load}
use Rattle.demand_core.specs.declared.Base.{Base}
use Rattle.calm_stretch.specs.Loads.{IsAt}
use Rattle.calm_stretch.specs.Moment.{Outside, came, IsArrival, Doing, Point, NonePending, kept_at}
use Rattle.calm_stretch.specs.Moment.Doing.{Free, Job, Section, Wake, Save, Sleep}
use Rattle.calm_stretch.specs.Operations.{Stage, AllTake, NoOperationLost, AreCalmOperations, after_stage, ticks_of_all, bounds_of_all, done_by}

pub record Row : Type 0 where
  pub base : Base
  pub loads : List Load
  pub reserve : ℕ

-- the pending arrival, of event j at tick a, that is due first
pub record IsNextBy (rows : ℕ → Row) (out : Outside) (p : Point) (j a : ℕ) (x : Load) : Type 0 where
  pub is : IsArrival out j (p.done j) a
  pub pending : a ≤ p.tick
  pub at : IsAt (rows a).loads j x
  pub first : (e b : ℕ) (y : Load) → IsArrival out e (p.done e) b → b ≤ p.tick → IsAt (rows b).loads e y → a + x.deadline ≤ b + y.deadline

-- it is too dear
abbrev pub IsShortBy : (ℕ → Row) → Outside → Point → Type 0
IsShortBy rows out p = (j : ℕ) × (a : ℕ) × (x : Load) × IsNextBy rows out p j a x × (p.stored < x.units)

-- what the policy lets begin, by the row in force, with its bounds in units and in ticks
abbrev pub MayBeginBy : (ℕ → Row) → Outside → Point → Doing → ℕ → ℕ → Type 0
MayBeginBy rows out p Free units ticks = ⊥
MayBeginBy rows out p (Job j) units ticks = (a : ℕ) × (x : Load) × IsNextBy rows out p j a x × (units ≤ x.units) × (ticks ≤ x.ticks)
MayBeginBy rows out p Section units ticks =
    let row = rows p.tick in
    NonePending out row.loads p × (row.reserve + row.base.checkpoint + row.base.section ≤ p.stored) × (units ≤ row.base.section) × (ticks ≤ row.base.longest)
MayBeginBy rows out p Wake units ticks =
    let row = rows p.tick in
    NonePending out row.loads p × (row.reserve + row.base.checkpoint + row.base.section + row.base.wake ≤ p.stored) × (p.dirty ≡ false) ×
    (units ≤ row.base.wake) × (ticks ≤ row.base.longest)
MayBeginBy rows out p Save units ticks =
    let row = rows p.tick in
    (NonePending out row.loads p ⊎ IsShortBy rows out p) × (p.dirty ≡ true) × (units ≤ row.base.checkpoint) × (ticks ≤ row.base.longest)
MayBeginBy rows out p Sleep units ticks =
    let row = rows p.tick in
    (NonePending out row.loads p ⊎ IsShortBy rows out p) × (p.dirty ≡ false) × (units ≡ 0) × (ticks ≤ row.base.longest)

-- a stage and the decision point that it leads to, whether something was lost or not
pub record Turn : Type 0 where
  pub stage : Stage
  pub after : Point

pub record IsTurn (rows : ℕ → Row) (out : Outside) (p : Point) (c : Turn) : Type 0 where
  pub some : c.stage.ended ≡ true → 0 < length c.stage.operations
  pub take : AllTake c.stage.operations
  pub begins : MayBeginBy rows out p c.stage.doing c.stage.units c.stage.ticks
  pub units : bounds_of_all c.stage.operations ≤ c.stage.units
  -- where it has not ended, more was to come
  pub ticks : ticks_of_all c.stage.operations + (if c.stage.ended then 0 else 1) ≤ c.stage.ticks
  -- only a section leaves something to save
  pub dirty : c.stage.dirty ≡ true → c.stage.doing ≡ Section
  pub leads : NoOperationLost c.stage.operations → c.after ≡ after_stage (rows p.tick).base out p c.stage

-- a timeline by the policy from a point on, over all losses
abbrev pub IsTimeline : (ℕ → Row) → Outside → Point → List Turn → Type 0
IsTimeline rows out p [] = Unit {0}
IsTimeline rows out p (c ∷ turns) = IsTurn rows out p c × (c.stage.ended ≡ false → turns ≡ []) × IsTimeline rows out c.after turns

-- the point after these turns
abbrev pub point_after : Point → List Turn → Point
point_after p [] = p
point_after p (c ∷ turns) = point_after c.after turns

abbrev pub stages_of : List Turn → List Stage
stages_of [] = []
stages_of (c ∷ turns) = c.stage ∷ stages_of turns

-- ---- calm

-- a decision point s at which a calm stretch may begin
pub record IsCalmStart (base : Base) (loads : List Load) (reserve : ℕ) (out : Outside) (s : ℕ) (p : Point) : Type 0 where
  pub tick : p.tick ≡ s
  -- what is pending there came then, and what is done has come
  pub fresh : (e : ℕ) (x : Load) → IsAt loads e x → came out e s ≤ p.done e
  pub done : (e : ℕ) (x : Load) → IsAt loads e x → p.done e ≤ came out e (s + 1)
  pub stored : reserve + kept_at base p.dirty ≤ p.stored

-- up to tick z every operation is calm
abbrev pub IsCalmTo : Base → Outside → ℕ → Point → List Turn → Type 0
IsCalmTo base out z p [] = Unit {0}
IsCalmTo base out z p (c ∷ turns) = AreCalmOperations base out z p.tick p.stored c.stage.operations × IsCalmTo base out z c.after turns

-- the arrival with index k of event e is done by its deadline tick, where that lies in the stretch
abbrev pub EachIsMet : List Load → Outside → ℕ → ℕ → Point → List Stage → Type 0
EachIsMet loads out s z p stages =
    (e : ℕ) (x : Load) (k a : ℕ) → IsAt loads e x → IsArrival out e k a → s ≤ a → a + x.deadline ≤ z →
    k < done_by p.done p.tick stages (a + x.deadline) e
