-- The numbers of a plan's rows: those of the program's jobs, on a device that can serve them.
use Rattle.std.specs.Prelude.{◌≡◌, ℕ, ◌+◌, ◌≤◌, ◌<◌, List, [], ◌∷◌, length, false, Some, All, slice_get, slice_index}
use Rattle.cat_program.specs.Checked.{Checked, IsChecked}
use Rattle.cat_program.specs.declared.headers.Event.{Event}
use Rattle.nv_memory.specs.declared.device.Device.{Device}
use Rattle.nv_memory.specs.declared.device.Class.{Class}
use Rattle.nv_memory.specs.AnyBoard.{cost_of}
use Rattle.nv_memory.specs.Layout.{lines_of}
use Rattle.nv_memory.specs.Board.{State}
use Rattle.event_arrivals.specs.Arrivals.{timings_of}
use Rattle.event_arrivals.specs.Counts.{came}
use Rattle.event_arrivals.specs.Spaced.{AreSound}
use Rattle.cost_bounds.specs.declared.job.Job.{Job}
use Rattle.cost_bounds.specs.BoundsValue.{BoundsValue, job_at}
use Rattle.cost_bounds.specs.Greatest.{AreBounds}
use Rattle.demand_core.specs.declared.Load.{Load}
use Rattle.demand_core.specs.declared.Base.{Base}
use Rattle.demand_core.specs.Demand.{reserve, IsWindow, IsFeasible}
use Rattle.degradation.specs.Choice.{load_of, base_of}
use Rattle.cn_scheduler.specs.declared.plan.Plan.{Plan}
use Rattle.cn_scheduler.specs.declared.plan.PlanRow.{PlanRow}
use Rattle.cn_scheduler.specs.Point.{Point}
use Rattle.cn_scheduler.specs.Chunks.{Link, is_last}

-- what the device gives where it counts on q units in every p ticks
abbrev pub base_with : BoundsValue → Device → ℕ → ℕ → Base
base_with b device p q = base_of b device (record { p = p; q = q })

-- event e asks for this: it is what its version's job takes at most
pub record IsLoadOf (program : Checked) (b : BoundsValue) (row : PlanRow) (e : ℕ) (load : Load) : Type 0 where
  pub header : Event
  pub header_is : slice_get program.headers e ≡ Some header
  pub job : Job
  pub job_is : job_at b e (slice_index row.versions e) ≡ Some job
  pub load_is : load ≡ load_of header job

-- a row's numbers are those of its versions
pub record IsRowOf (program : Checked) (b : BoundsValue) (row : PlanRow) : Type 0 where
  pub loads : (e : ℕ) (load : Load) → slice_get row.loads e ≡ Some load → IsLoadOf program b row e load
  pub checkpoint : row.numbers.checkpoint ≡ b.checkpoint.units
  pub section : row.numbers.section ≡ b.section.units
  pub level : row.numbers.reserve + b.checkpoint.units + b.section.units + b.wake.units ≤ row.numbers.level

-- its events are feasible on a device that counts on q units in every p ticks
pub record IsFeasibleRow (b : BoundsValue) (device : Device) (p q : ℕ) (row : PlanRow) : Type 0 where
  pub positive : 0 < p
  pub window : IsWindow p row.loads row.numbers.window
  pub feasible : IsFeasible (base_with b device p q) row.loads row.numbers.window
  pub reserve_is : row.numbers.reserve ≡ reserve (base_with b device p q) row.loads row.numbers.window

-- the plan is that of a program on a device
pub record IsPlanned (program : Checked) (device : Device) (b : BoundsValue) (plan : Plan) : Type 0 where
  pub checked : IsChecked program
  pub bounds : AreBounds program device (lines_of plan.layout) b
  pub rows : All (IsRowOf program b) plan.rows
  pub arrivals : AreSound plan.queue.arrivals
  pub timings : plan.queue.arrivals.timings ≡ timings_of program.headers

-- so it is at each decision point
abbrev pub AtEachPoint : (Point → Type 0) → Point → List Link → Type 0
AtEachPoint P p [] = P p
AtEachPoint P p (c ∷ links) = P p × (is_last c.outcome ≡ false → AtEachPoint P c.after links)

-- the board is the device's, and began at tick `origin`
pub record IsBoardOf (device : Device) (origin : ℕ) (s : State) : Type 0 where
  pub cap : s.cap ≡ device.cap
  pub ticks : (class : Class) → s.ticks class ≡ (cost_of device class).ticks
  pub some_ticks : (class : Class) → 1 ≤ s.ticks class
  pub passed : origin + length s.harvest ≡ s.tick

-- what is done has come
abbrev pub DoneHasCome : Plan → Point → Type 0
DoneHasCome plan p = (e : ℕ) → slice_index p.work.done e ≤ came plan.queue.arrivals e (p.board.tick + 1)
