-- A replay that went on from a saved image and has ended, and the life and the report for which it stands.
use Rattle.std.specs.Prelude.{◌≡◌, ◌≤◌, false, List, length, All}
use Rattle.board_core.specs.Reached.{IsReached, first_state}
use Rattle.board_core.specs.ModelBoardState.{origin_of, state_of}
use Rattle.checkpoint_slots.specs.Image.{committed_slot}
use Rattle.checkpoint_slots.specs.Slot.{IsMadeFor}
use Rattle.cn_report.specs.Kept.{HasKept}
use Rattle.cn_report.specs.Whole.{IsReplayed}
use Rattle.cn_resume.specs.declared.saved.Saved.{Saved}
use Rattle.cn_runtime.specs.declared.prepared.Prepared.{Prepared}
use Rattle.degradation.specs.Choice.{Suits}
use Rattle.harvest_trace.specs.declared.failures.Failure.{Failure}
use Rattle.harvest_trace.specs.declared.row.TraceRow.{TraceRow}
use Rattle.lawful_timeline.specs.Claims.{IsReplayed as Ran}
use Rattle.lawful_timeline.specs.Starting.{saved_point}
use Rattle.nv_memory.specs.Layout.{size_of}
use Rattle.nv_memory.specs.declared.device.Device.{Device}
use Rattle.catnap_top.specs.declared.files.ReplayFiles.{ReplayFiles}
use Rattle.catnap_top.specs.declared.resume.BegunAgain.{BegunAgain}
use Rattle.catnap_top.specs.declared.resume.Resumed.{Resumed}
use Rattle.catnap_top.specs.Answer.{Answer}
use Rattle.catnap_top.specs.Replayed.{lived_of}
use Rattle.catnap_top.specs.Resume.{Start, past_since, rest_reported, told_before}

abbrev pub resumed_answer : Resumed → Answer
resumed_answer r = rest_reported (lived_of r.replayed).files (lived_of r.replayed).chosen (lived_of r.replayed).life

-- its report can be written
pub record CanTellRest (r : Resumed) : Type 0 where
  pub count : length r.replayed.prepared.chosen ≡ length r.replayed.prepared.forecast
  pub suits : All (Suits r.replayed.prepared.program) r.replayed.prepared.chosen
  pub events : length r.replayed.prepared.plan.queue.arrivals.timings ≡ length r.replayed.prepared.program.events
  pub words : r.replayed.prepared.plan.layout.words ≡ length r.replayed.prepared.program.words
  pub large : size_of r.replayed.prepared.plan.layout ≤ length (origin_of r.replayed.board).image
  pub replayed : IsReplayed r.replayed.prepared.program (past_since (lived_of r.replayed).life)
  pub from_is : r.from ≡ told_before (lived_of r.replayed).life
  pub kept : HasKept r.replayed.prepared.plan.layout (origin_of r.replayed.board).image r.replayed.shadow
  pub made : IsMadeFor r.replayed.prepared.plan.layout r.replayed.shadow.slot

-- the files of what was prepared by the profile alone, with a trace and its failures
abbrev pub files_with : Prepared → List TraceRow → List Failure → ReplayFiles
files_with prepared trace failures =
    record { program = prepared.program; device = prepared.device; trace = trace; arrivals = prepared.plan.queue.arrivals; failures = failures; given = false; forecast = prepared.forecast }

-- what was read of a saved image
abbrev pub start_of : Saved → Start
start_of saved = record { tick = saved.tick; stored = saved.stored; image = saved.image.items }

-- a board that goes on from what was saved, with what its image has to tell
pub record BeginsAgain (prepared : Prepared) (trace : List TraceRow) (failures : List Failure) (device : Device) (start : Start) (b : BegunAgain) : Type 0 where
  pub trace_is : (origin_of b.board).trace ≡ trace
  pub fails_are : (origin_of b.board).fails ≡ failures
  pub device_is : (origin_of b.board).device ≡ device
  pub tick_is : (origin_of b.board).tick ≡ start.tick
  pub stored_is : (origin_of b.board).stored ≡ start.stored
  pub image_is : (origin_of b.board).image ≡ start.image
  pub state_is : state_of b.board ≡ first_state (origin_of b.board)
  pub from_is : b.from ≡ (committed_slot prepared.plan.layout start.image).len
  pub kept : HasKept prepared.plan.layout start.image b.shadow
  pub made : IsMadeFor prepared.plan.layout b.shadow.slot

-- the replay on such a board has ended
pub record HasGoneOn (prepared : Prepared) (b : BegunAgain) (r : Resumed) : Type 0 where
  pub from_is : r.from ≡ b.from
  pub given_is : r.replayed.given ≡ false
  pub same : origin_of r.replayed.board ≡ origin_of b.board
  pub others : r.replayed.prepared ≡ record prepared { engine = r.replayed.prepared.engine }
  pub replayed : Ran prepared.program prepared.plan (saved_point prepared.plan.layout (state_of b.board)) r.replayed.end (state_of r.replayed.board)
  pub reached : IsReached (origin_of r.replayed.board) (state_of r.replayed.board)
  pub shadow_is : r.replayed.shadow ≡ b.shadow
