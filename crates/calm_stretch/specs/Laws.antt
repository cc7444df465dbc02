-- The law of calm stretches, over whole timelines.
use Rattle.std.specs.Prelude.{◌≡◌, ℕ, ◌<◌, ◌≤◌, List, ◌++◌}
use Rattle.event_arrivals.specs.Spaced.{AreSound}
use Rattle.demand_core.specs.declared.Load.{Load}
use Rattle.demand_core.specs.Demand.{reserve, IsWindow, IsFeasible}
use Rattle.calm_stretch.specs.Loads.{IsAt, AreLoads}
use Rattle.calm_stretch.specs.Moment.{Outside, Point, AreSpaced, IsSupplied}
use Rattle.calm_stretch.specs.Operations.{end_of, AreSafe, MeetAt}
use Rattle.calm_stretch.specs.Rows.{Row, Turn, IsTimeline, point_after, stages_of, IsCalmStart, IsCalmTo, EachIsMet}

-- a row's numbers are those of a feasible set for these arrivals
pub record IsFeasibleRow (row : Row) (window : ℕ) (out : Outside) : Type 0 where
  pub are : AreLoads row.base row.loads
  pub is_window : IsWindow row.base.p row.loads window
  pub feasible : IsFeasible row.base row.loads window
  pub reserve_is : row.reserve ≡ reserve row.base row.loads window
  pub spaced : AreSpaced row.loads out

-- ticks s to z lie in the epoch of one row, and each row has a load of the same events
pub record IsEpoch (rows : ℕ → Row) (row : Row) (s z : ℕ) : Type 0 where
  pub in_force : (t : ℕ) → s ≤ t → t < z → rows t ≡ row
  pub same_events : (t e : ℕ) (x : Load) → IsAt (rows t).loads e x → (y : Load) × IsAt row.loads e y

-- ticks s to z are calm: they begin at the decision point p, from which these turns go on
pub record IsCalm (row : Row) (out : Outside) (s z : ℕ) (p : Point) (turns : List Turn) : Type 0 where
  pub start : IsCalmStart row.base row.loads row.reserve out s p
  pub calm : IsCalmTo row.base out z p turns
  pub supplied : IsSupplied row.base out s z
  pub ordered : s ≤ z
  pub within : z ≤ end_of s (stages_of turns)

-- no operation is lost, there is enough at each decision point, at most one arrival of each event is pending at each tick, and each
-- arrival that is due within the stretch is done by its deadline
pub record IsMet (row : Row) (out : Outside) (s z : ℕ) (p : Point) (turns : List Turn) : Type 0 where
  pub safe : AreSafe row.base row.loads out z p (stages_of turns)
  pub at_each_tick : MeetAt row.loads out s z p (stages_of turns)
  pub met : EachIsMet row.loads out s z p (stages_of turns)

-- every calm stretch within one epoch of a timeline meets its deadlines
abbrev pub DeadlinesLaw : Type 0
DeadlinesLaw =
    (rows : ℕ → Row) (row : Row) (window : ℕ) (out : Outside) (s z : ℕ) (first : Point) (before turns : List Turn) →
    AreSound out.arrivals → IsFeasibleRow row window out → IsEpoch rows row s z → IsTimeline rows out first (before ++ turns) →
    IsCalm row out s z (point_after first before) turns → IsMet row out s z (point_after first before) turns
