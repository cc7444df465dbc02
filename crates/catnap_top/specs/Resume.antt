-- `resume SRC DEVICE TRACE ARRIVALS FAILS IMAGE`: the report of a life that goes on from a saved image.
use Rattle.std.specs.Prelude.{◌≡◌, ℕ, List, [], ◌∷◌, None, Result, MatchResult}
use Rattle.board_core.specs.Reached.{model_start}
use Rattle.checkpoint_slots.specs.Image.{committed_slot}
use Rattle.cn_report.specs.Whole.{resumed_text}
use Rattle.cn_resume.specs.Fit.{Purpose, tick_in, stored_in, image_in, IsFit, IsFirstFault}
use Rattle.cn_scheduler.specs.Point.{Work, work_of}
use Rattle.degradation.specs.Placed.{IsLayoutOf}
use Rattle.degradation.specs.declared.chosen.Chosen.{Chosen}
use Rattle.harvest_trace.specs.Timeline.{life_of}
use Rattle.nv_memory.specs.declared.layout.Layout.{Layout}
use Rattle.recovery.specs.Past.{Past, committed_at, past_of}
use Rattle.resumed_runs.specs.Files.{purpose_for}
use Rattle.catnap_top.specs.declared.fault.Fault.TheVariants as fault
use Rattle.catnap_top.specs.declared.file_fault.BadImage.{BadImage}
use Rattle.catnap_top.specs.declared.files.ReplayFiles.{ReplayFiles}
use Rattle.catnap_top.specs.Answer.{Answer}
use Rattle.catnap_top.specs.Files.{files_in}
use Rattle.catnap_top.specs.Lives.{Goes, Life, status_of}
use Rattle.catnap_top.specs.Look.{Look, ◌>>=◌, found, By, Finding}
use Rattle.catnap_top.specs.Replay.{versions_for}

-- ---- a saved image

-- from what a device goes on
pub record Start : Type 0 where
  pub tick : ℕ
  pub stored : ℕ
  pub image : List ℕ

-- what a saved image says of it
abbrev pub start_for : List ℕ → Start
start_for bytes = record { tick = tick_in bytes; stored = stored_in bytes; image = image_in bytes }

-- it is to be one of these files, in the versions that are chosen for them
abbrev pub purpose_in : ReplayFiles → Chosen → Layout → Purpose
purpose_in files chosen l = purpose_for files.program chosen files.arrivals l files.device (life_of files.trace)

-- bytes are a saved image from which the device can go on, in the versions that are chosen for the forecast's one row, or the first
-- condition on them fails
pub record IsImage (files : ReplayFiles) (chosen : List Chosen) (bytes : List ℕ) (came : Result Start BadImage) : Type 0 where
  pub one : Chosen
  pub alone : chosen ≡ one ∷ []
  pub l : Layout
  pub layout : IsLayoutOf files.program files.device l
  pub verdict : MatchResult came (λ start. IsFit (purpose_in files one l) bytes × (start ≡ start_for bytes))
      (λ bad. IsFirstFault (purpose_in files one l) bytes bad.kind bad.at)

abbrev pub start_in : ReplayFiles → List Chosen → List ℕ → Look Start
start_in files chosen bytes = By fault.Image (IsImage files chosen bytes)

-- ---- the life

-- the working value that an image has committed
abbrev pub committed_work : List ℕ → Layout → Work
committed_work image l = work_of (committed_slot l image)

-- The board begins at the saved tick with the saved units and the saved image, and the program in the state that the image has committed.
pub record GoesOn (files : ReplayFiles) (chosen : List Chosen) (start : Start) (life : Life) : Type 0 where
  pub goes : Goes files chosen (committed_work start.image) life
  pub tick_is : life.origin.tick ≡ start.tick
  pub stored_is : life.origin.stored ≡ start.stored
  pub image_is : life.origin.image ≡ start.image

abbrev pub going_on : ReplayFiles → List Chosen → Start → Look Life
going_on files chosen start = Finding (GoesOn files chosen start)

-- ---- the report

-- what the board went through since
abbrev pub past_since : Life → Past
past_since life = past_of life.layout (model_start life.origin) life.state

-- how many records were committed when it began
abbrev pub told_before : Life → ℕ
told_before life = (committed_at (past_since life) 0).len

abbrev pub rest_reported : ReplayFiles → List Chosen → Life → Answer
rest_reported files chosen life =
    record {
      status = status_of life.end;
      text = resumed_text files.program.headers files.program.variables files.given files.forecast chosen files.arrivals (past_since life) (told_before life)
          life.state.tick life.state.stored life.end;
    }

-- the versions in which the device can serve the events, the image, and then the life that goes on from it
abbrev pub going : ReplayFiles → List ℕ → Look Answer
going files image = do
  chosen ← versions_for files
  start ← start_in files chosen image
  life ← going_on files chosen start
  found (rest_reported files chosen life)

-- the files in their order, and then the rest
abbrev pub resuming : List ℕ → List ℕ → List ℕ → List ℕ → List ℕ → List ℕ → Look Answer
resuming source profile trace arrivals failures image = do
  files ← files_in source profile trace arrivals failures None
  going files image
