-- Operations of several ticks, as the entries of a timeline tell them.
use Rattle.std.specs.Prelude.{◌≡◌, ℕ, suc, zero, ◌+◌, ◌-◌, ◌<◌, ◌≤◌, List, [], ◌∷◌, Bool, true, false, min, nat_le, ◌&&◌, if◌then◌else◌}
use Rattle.demand_core.specs.declared.Base.{Base}
use Rattle.demand_core.specs.declared.Load.{Load}
use Rattle.calm_stretch.specs.Loads.{IsAt}
use Rattle.calm_stretch.specs.Moment.{Outside, came, Doing, Point, taken_in, HasEnough}

-- the bound of its class, the ticks that passed, what it drew, and whether it is lost
pub record Operation : Type 0 where
  pub bound : ℕ
  pub ticks : ℕ
  pub drawn : ℕ
  pub lost : Bool

-- the store after n ticks from tick t on, each of which adds its harvest and cuts to the cap
abbrev pub filled : ℕ → (ℕ → ℕ) → ℕ → ℕ → ℕ → ℕ
filled cap harvest t stored zero = stored
filled cap harvest t stored (suc n) = filled cap harvest (t + 1) (min cap (stored + harvest t)) n

-- the store after an operation that begins at tick t, and after several
abbrev pub stored_by : Base → Outside → ℕ → ℕ → Operation → ℕ
stored_by base out t stored o = filled base.cap out.harvest t (stored - o.drawn) o.ticks

abbrev pub stored_by_all : Base → Outside → ℕ → ℕ → List Operation → ℕ
stored_by_all base out t stored [] = stored
stored_by_all base out t stored (o ∷ operations) = stored_by_all base out (t + o.ticks) (stored_by base out t stored o) operations

abbrev pub ticks_of_all : List Operation → ℕ
ticks_of_all [] = 0
ticks_of_all (o ∷ operations) = o.ticks + ticks_of_all operations

abbrev pub bounds_of_all : List Operation → ℕ
bounds_of_all [] = 0
bounds_of_all (o ∷ operations) = o.bound + bounds_of_all operations

-- no operation that begins before z draws more than its bound, and none that has its bound is lost
abbrev pub AreCalmOperations : Base → Outside → ℕ → ℕ → ℕ → List Operation → Type 0
AreCalmOperations base out z t stored [] = Unit {0}
AreCalmOperations base out z t stored (o ∷ operations) =
    (t < z → (o.drawn ≤ o.bound) × (o.bound ≤ stored → o.lost ≡ false)) ×
    (o.lost ≡ false → AreCalmOperations base out z (t + o.ticks) (stored_by base out t stored o) operations)

-- each takes time
abbrev pub AllTake : List Operation → Type 0
AllTake [] = Unit {0}
AllTake (o ∷ operations) = (0 < o.ticks) × AllTake operations

abbrev pub NoOperationLost : List Operation → Type 0
NoOperationLost [] = Unit {0}
NoOperationLost (o ∷ operations) = (o.lost ≡ false) × NoOperationLost operations

-- no operation that begins before z is lost
abbrev pub NoOperationLostBefore : ℕ → ℕ → List Operation → Type 0
NoOperationLostBefore z t [] = Unit {0}
NoOperationLostBefore z t (o ∷ operations) = (t < z → o.lost ≡ false) × NoOperationLostBefore z (t + o.ticks) operations

-- ---- a timeline of operations

-- what one decision leads to, with its bounds in units and in ticks
pub record Stage : Type 0 where
  pub doing : Doing
  pub units : ℕ
  pub ticks : ℕ
  pub operations : List Operation
  -- it came to its end, or was dropped; not, where the timeline ends within it
  pub ended : Bool
  -- whether something is left to save
  pub dirty : Bool

-- the decision point after it
abbrev pub after_stage : Base → Outside → Point → Stage → Point
after_stage base out p c =
    record {
      tick = p.tick + ticks_of_all c.operations;
      stored = stored_by_all base out p.tick p.stored c.operations;
      dirty = c.dirty;
      done = λ e. taken_in c.doing p.done e;
    }

-- the tick at which these end
abbrev pub end_of : ℕ → List Stage → ℕ
end_of t [] = t
end_of t (c ∷ stages) = end_of (t + ticks_of_all c.operations) stages

-- how many jobs of event e are done at tick t
abbrev pub done_by : (ℕ → ℕ) → ℕ → List Stage → ℕ → ℕ → ℕ
done_by done start [] t e = done e
done_by done start (c ∷ stages) t e =
    if c.ended && nat_le (start + ticks_of_all c.operations) t then done_by (λ i. taken_in c.doing done i) (start + ticks_of_all c.operations) stages t e else done e

-- ---- what is claimed

-- at each decision point up to z there is enough, and nothing that begins before z is lost
abbrev pub AreSafe : Base → List Load → Outside → ℕ → Point → List Stage → Type 0
AreSafe base loads out z p [] = p.tick ≤ z → HasEnough base loads out p
AreSafe base loads out z p (c ∷ stages) =
    (p.tick ≤ z → HasEnough base loads out p) × NoOperationLostBefore z p.tick c.operations ×
    (c.ended ≡ true → AreSafe base loads out z (after_stage base out p c) stages)

-- at each tick at most one arrival of each event is pending, and all that is due by then is done
abbrev pub MeetAt : List Load → Outside → ℕ → ℕ → Point → List Stage → Type 0
MeetAt loads out s z p stages =
    (t : ℕ) → s ≤ t → t ≤ z → (e : ℕ) (x : Load) → IsAt loads e x →
    (came out e (t + 1) ≤ done_by p.done p.tick stages t e + 1) × (came out e (t + 1 - x.deadline) ≤ done_by p.done p.tick stages t e)
