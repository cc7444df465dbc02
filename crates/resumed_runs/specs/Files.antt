-- Files from which a run goes on, and files that a run leaves.
use Rattle.std.specs.Prelude.{◌≡◌, ℕ, ◌≤◌, false, List}
use Rattle.cn_base.specs.declared.TheConstants.{MOST_TICKS}
use Rattle.cat_program.specs.Checked.{Checked}
use Rattle.nv_memory.specs.declared.device.Device.{Device}
use Rattle.nv_memory.specs.declared.layout.Layout.{Layout}
use Rattle.nv_memory.specs.Board.{State}
use Rattle.event_arrivals.specs.Arrivals.{Lists}
use Rattle.reference_run.specs.Reference.{setting_of}
use Rattle.degradation.specs.declared.chosen.Chosen.{Chosen}
use Rattle.cn_scheduler.specs.declared.plan.Plan.{Plan}
use Rattle.cn_scheduler.specs.Point.{Point}
use Rattle.cn_scheduler.specs.Chunks.{Link, IsLawful, point_after}
use Rattle.lawful_timeline.specs.Working.{IsSetUp}
use Rattle.lawful_timeline.specs.Points.{TakesTime}
use Rattle.lawful_timeline.specs.Starting.{StartsFresh, saved_point}
use Rattle.cn_runtime.specs.Steady.{IsSteadyPlan}
use Rattle.cn_runtime.specs.Resumed.{CanGoOn}
use Rattle.cn_resume.specs.Fit.{IsFit, Purpose, image_in, purpose_of, tick_in}
use Rattle.cn_resume.specs.Saved.{saved_bytes}

-- what an image is saved for: a program in the versions that were chosen for it, with its arrivals, on a device, for a life
abbrev pub purpose_for : Checked → Chosen → Lists → Layout → Device → ℕ → Purpose
purpose_for program chosen arrivals l device life = purpose_of (setting_of program chosen.versions arrivals) l device.cap life

-- a board that begins with a file: off, at the tick that the file says, and with its image
pub record BeginsWith (file : List ℕ) (board : State) : Type 0 where
  pub off : board.on ≡ false
  pub tick : board.tick ≡ tick_in file
  pub image : board.image ≡ image_in file

-- a run of the plan can go on from each file that is fit for it
abbrev pub FitImagesBegin : Type 0
FitImagesBegin =
    (program : Checked) (device : Device) (arrivals : Lists) (chosen : Chosen) (plan : Plan) (life : ℕ) (file : List ℕ) (board : State) →
    IsSteadyPlan program device arrivals chosen plan → IsFit (purpose_for program chosen arrivals plan.layout device life) file → BeginsWith file board →
    CanGoOn program plan board

-- a lawful timeline leads from a point to a board within its life, which stores no more than a device can
pub record LeadsTo (device : Device) (plan : Plan) (p : Point) (board : State) : Type 0 where
  pub chunks : List Link
  pub lawful : IsLawful plan p chunks
  pub leads : (point_after p chunks).board ≡ board
  pub takes_time : TakesTime p.board
  pub in_life : board.tick ≤ board.life
  pub life_in_range : board.life ≤ MOST_TICKS
  pub in_cap : board.stored ≤ device.cap

-- the file of a board is fit, wherever a timeline of the plan ended
pub record SavedImagesFit : Type 0 where
  -- of a run from the first image
  pub fresh : (program : Checked) (device : Device) (arrivals : Lists) (chosen : Chosen) (plan : Plan) (p : Point) (board : State) → IsSteadyPlan program device arrivals chosen plan
      → IsSetUp program plan → StartsFresh program plan p → LeadsTo device plan p board → IsFit (purpose_for program chosen arrivals plan.layout device board.life) (saved_bytes board)
  -- and of one that went on from a file
  pub resumed : (program : Checked) (device : Device) (arrivals : Lists) (chosen : Chosen) (plan : Plan) (life : ℕ) (file : List ℕ) (first board : State)
      → IsSteadyPlan program device arrivals chosen plan → IsSetUp program plan → IsFit (purpose_for program chosen arrivals plan.layout device life) file → BeginsWith file first
      → LeadsTo device plan (saved_point plan.layout first) board → IsFit (purpose_for program chosen arrivals plan.layout device board.life) (saved_bytes board)
