-- A replay that has ended, and the life and the report for which it stands.
use Rattle.std.specs.Prelude.{◌≡◌, Bool, List, length, All}
use Rattle.harvest_trace.specs.declared.failures.Failure.{Failure}
use Rattle.harvest_trace.specs.declared.row.TraceRow.{TraceRow}
use Rattle.nv_memory.specs.declared.device.Device.{Device}
use Rattle.recovery.specs.First.{IsFresh}
use Rattle.cn_scheduler.specs.EnginePoint.{point_of}
use Rattle.cn_runtime.specs.declared.prepared.Prepared.{Prepared}
use Rattle.lawful_timeline.specs.Claims.{IsReplayed as Ran}
use Rattle.board_core.specs.declared.model_board.ModelBoard.{ModelBoard}
use Rattle.checkpoint_slots.specs.Slot.{IsMadeFor}
use Rattle.degradation.specs.Choice.{Suits}
use Rattle.board_core.specs.Reached.{IsReached, first_state, model_start}
use Rattle.board_core.specs.ModelBoardState.{origin_of, state_of}
use Rattle.recovery.specs.Past.{past_of}
use Rattle.cn_report.specs.Whole.{IsReplayed}
use Rattle.catnap_top.specs.declared.replay.Replayed.{Replayed}
use Rattle.catnap_top.specs.Answer.{Answer}
use Rattle.catnap_top.specs.Lives.{Lived, reported}

-- the life for which it stands, with the files and the versions from which it came
abbrev pub lived_of : Replayed → Lived
lived_of r =
    record {
      files = record {
        program = r.prepared.program;
        device = r.prepared.device;
        trace = (origin_of r.board).trace;
        arrivals = r.prepared.plan.queue.arrivals;
        failures = (origin_of r.board).fails;
        given = r.given;
        forecast = r.prepared.forecast;
      };
      chosen = r.prepared.chosen;
      life = record { layout = r.prepared.plan.layout; origin = origin_of r.board; state = state_of r.board; end = r.end };
    }

abbrev pub replayed_answer : Replayed → Answer
replayed_answer r = reported (lived_of r).files (lived_of r).chosen (lived_of r).life

-- its report can be written
pub record IsReadyToTell (r : Replayed) : Type 0 where
  pub count : length r.prepared.chosen ≡ length r.prepared.forecast
  pub suits : All (Suits r.prepared.program) r.prepared.chosen
  pub events : length r.prepared.plan.queue.arrivals.timings ≡ length r.prepared.program.events
  pub fresh : IsFresh r.prepared.program r.prepared.plan.layout (origin_of r.board).image
  pub replayed : IsReplayed r.prepared.program (past_of r.prepared.plan.layout (model_start (origin_of r.board)) (state_of r.board))
  pub made : IsMadeFor r.prepared.plan.layout r.shadow.slot

-- a board at the beginning of its trace, with the first image of what was prepared
pub record HasBegun (prepared : Prepared) (trace : List TraceRow) (failures : List Failure) (device : Device) (board : ModelBoard) : Type 0 where
  pub trace_is : (origin_of board).trace ≡ trace
  pub fails_are : (origin_of board).fails ≡ failures
  pub device_is : (origin_of board).device ≡ device
  pub tick_is : (origin_of board).tick ≡ 0
  pub stored_is : (origin_of board).stored ≡ device.start
  pub fresh : IsFresh prepared.program prepared.plan.layout (origin_of board).image
  pub state_is : state_of board ≡ first_state (origin_of board)

-- a replay of what was prepared, on such a board, has ended
pub record HasEnded (prepared : Prepared) (given : Bool) (trace : List TraceRow) (failures : List Failure) (device : Device) (r : Replayed) : Type 0 where
  pub first : ModelBoard
  pub given_is : r.given ≡ given
  pub begun : HasBegun prepared trace failures device first
  pub same : origin_of r.board ≡ origin_of first
  pub others : r.prepared ≡ record prepared { engine = r.prepared.engine }
  pub replayed : Ran prepared.program prepared.plan (point_of prepared.engine (state_of first)) r.end (state_of r.board)
  pub reached : IsReached (origin_of r.board) (state_of r.board)
  pub made : IsMadeFor prepared.plan.layout r.shadow.slot
