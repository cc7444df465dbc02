-- A program's life on a device: the one lawful timeline on the board that the files tell.
use Rattle.std.specs.Prelude.{◌≡◌, false, List}
use Rattle.nv_memory.specs.declared.layout.Layout.{Layout}
use Rattle.nv_memory.specs.Board.{State}
use Rattle.recovery.specs.First.{IsFresh}
use Rattle.degradation.specs.declared.chosen.Chosen.{Chosen}
use Rattle.board_core.specs.declared.origin.ModelOrigin.{ModelOrigin}
use Rattle.board_core.specs.Reached.{IsReached, first_state, model_start}
use Rattle.cn_scheduler.specs.declared.engine.End.{End}
use Rattle.cn_scheduler.specs.declared.engine.End.TheVariants.{TraceEnded, LogFull}
use Rattle.cn_scheduler.specs.declared.plan.Plan.{Plan}
use Rattle.cn_scheduler.specs.Point.{Point, Work}
use Rattle.cn_scheduler.specs.Chunks.{Link, IsLawful, point_after}
use Rattle.lawful_timeline.specs.Claims.{EndsAs, last_outcome}
use Rattle.cn_runtime.specs.Planned.{IsPlanFor}
use Rattle.lawful_timeline.specs.Starting.{first_work}
use Rattle.recovery.specs.Past.{past_of}
use Rattle.cn_report.specs.Whole.{report_text}
use Rattle.catnap_top.specs.declared.files.ReplayFiles.{ReplayFiles}
use Rattle.catnap_top.specs.declared.status.Status.{Status}
use Rattle.catnap_top.specs.declared.status.Status.TheVariants.{Done, LogFull as Full}
use Rattle.catnap_top.specs.Answer.{Answer}

-- where it began, and how it ended
pub record Life : Type 0 where
  pub layout : Layout
  pub origin : ModelOrigin
  pub state : State
  pub end : End

-- the first decision point: the board is off, with a working value of which all is saved
abbrev pub start_point : ModelOrigin → Work → Point
start_point origin work = record { board = first_state origin; work = work; dirty = false }

-- From a board as it begins, and a working value, a lawful timeline leads to the board's last state, by the rules of the trace, the
-- failures and the device.
pub record Goes (files : ReplayFiles) (chosen : List Chosen) (begun : Layout → Work) (life : Life) : Type 0 where
  pub plan : Plan
  pub is_plan : IsPlanFor files.program files.device files.arrivals files.forecast chosen plan
  pub layout_is : life.layout ≡ plan.layout
  pub trace_is : life.origin.trace ≡ files.trace
  pub fails_are : life.origin.fails ≡ files.failures
  pub device_is : life.origin.device ≡ files.device
  pub chunks : List Link
  pub lawful : IsLawful plan (start_point life.origin (begun plan.layout)) chunks
  pub leads : (point_after (start_point life.origin (begun plan.layout)) chunks).board ≡ life.state
  pub ends : EndsAs life.end (last_outcome chunks)
  pub reached : IsReached life.origin life.state

-- The board begins at tick 0 with the device's first units and the program's first image, and the program in its first state.
pub record Lives (files : ReplayFiles) (chosen : List Chosen) (life : Life) : Type 0 where
  pub goes : Goes files chosen (first_work files.program) life
  pub at_first : life.origin.tick ≡ 0
  pub stored_is : life.origin.stored ≡ files.device.start
  pub fresh : IsFresh files.program goes.plan.layout life.origin.image

-- files, the versions that are chosen for their program, for each row of the forecast, and the life that follows
pub record Lived : Type 0 where
  pub files : ReplayFiles
  pub chosen : List Chosen
  pub life : Life

abbrev pub status_of : End → Status
status_of TraceEnded = Done
status_of LogFull = Full

-- the report of a life
abbrev pub reported : ReplayFiles → List Chosen → Life → Answer
reported files chosen life =
    record {
      status = status_of life.end;
      text = report_text files.program.headers files.program.variables files.given files.forecast chosen files.arrivals (past_of life.layout (model_start life.origin) life.state)
          life.state.tick life.state.stored life.end;
    }
