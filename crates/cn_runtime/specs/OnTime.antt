-- A replay on a device that can serve its events.
use Rattle.std.specs.Prelude.{◌≡◌, ℕ, List, Some, slice_get}
use Rattle.cat_program.specs.Checked.{Checked, IsChecked}
use Rattle.nv_memory.specs.declared.device.Class.{Class}
use Rattle.nv_memory.specs.declared.device.Device.{Device}
use Rattle.nv_memory.specs.declared.layout.Layout.{Layout}
use Rattle.nv_memory.specs.AnyBoard.{cost_of}
use Rattle.nv_memory.specs.Board.{State}
use Rattle.event_arrivals.specs.Arrivals.{Lists, timings_of}
use Rattle.event_arrivals.specs.Spaced.{AreSound}
use Rattle.cost_bounds.specs.BoundsValue.{BoundsValue}
use Rattle.degradation.specs.declared.chosen.Chosen.{Chosen}
use Rattle.degradation.specs.Placed.{IsLayoutOf}
use Rattle.cn_scheduler.specs.declared.engine.End.{End}
use Rattle.forecast_table.specs.declared.epoch.Epoch.{Epoch}
use Rattle.forecast_table.specs.Epochs.{IsForecast}
use Rattle.cn_scheduler.specs.declared.plan.Plan.{Plan}
use Rattle.cn_scheduler.specs.declared.plan.PlanRow.{PlanRow}
use Rattle.cn_scheduler.specs.Point.{Point}
use Rattle.lawful_timeline.specs.Claims.{IsReplayed}
use Rattle.calm_timeline.specs.Numbers.{IsPlanned, IsFeasibleRow}
use Rattle.timely_commits.specs.Timely.{AreOnTime}
use Rattle.cn_runtime.specs.Planned.{IsChosenFor, IsPlanFor}

-- the board's store and its operations are those of a device
pub record IsOf (device : Device) (board : State) : Type 0 where
  pub cap : board.cap ≡ device.cap
  pub ticks : (kind : Class) → board.ticks kind ≡ (cost_of device kind).ticks

-- A lawful timeline from a point on to a board, in whose calm stretches each event is on time, by whatever bounds the plan counts on.
pub record IsReplayedOnTime (program : Checked) (device : Device) (plan : Plan) (origin : ℕ) (p : Point) (end : End) (board : State) : Type 0 where
  pub replayed : IsReplayed program plan p end board
  pub deadlines : (b : BoundsValue) → IsPlanned program device b plan → AreOnTime program device b plan origin p replayed.chunks

-- each row of a plan is feasible on a device with what the forecast's row in its place says of the harvest
abbrev pub AreFeasible : BoundsValue → Device → List Epoch → List PlanRow → Type 0
AreFeasible b device forecast rows =
    (place : ℕ) (epoch : Epoch) (row : PlanRow) → slice_get forecast place ≡ Some epoch → slice_get rows place ≡ Some row → IsFeasibleRow b device epoch.p epoch.q row

-- The plan of a forecast's choices for a device has the numbers of the program's jobs, and its rows are feasible there.
abbrev pub PlansArePlanned : Type 0
PlansArePlanned =
    (program : Checked) (device : Device) (arrivals : Lists) (forecast : List Epoch) (l : Layout) (chosen : List Chosen) (plan : Plan) → IsChecked program → AreSound arrivals →
    arrivals.timings ≡ timings_of program.headers → IsForecast forecast → IsLayoutOf program device l → (is : IsChosenFor program device l forecast chosen) →
    IsPlanFor program device arrivals forecast chosen plan → IsPlanned program device is.bounds plan × AreFeasible is.bounds device forecast plan.rows
