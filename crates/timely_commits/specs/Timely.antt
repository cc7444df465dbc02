-- Deadlines of a run from its beginning on: what the log says of each event that is due in a calm stretch.
use Rattle.std.specs.Prelude.{◌≡◌, ℕ, ◌+◌, ◌≤◌, List, ◌∷◌, ◌++◌, Some, slice_get, slice_index}
use Rattle.cat_program.specs.Checked.{Checked}
use Rattle.cat_program.specs.declared.outs.LogEntry.TheVariants.{Ran}
use Rattle.nv_memory.specs.declared.device.Device.{Device}
use Rattle.event_arrivals.specs.Arrivals.{arrival_at}
use Rattle.event_arrivals.specs.declared.arrival.Arrival.{Arrival}
use Rattle.cost_bounds.specs.BoundsValue.{BoundsValue}
use Rattle.reference_run.specs.Reference.{Moment}
use Rattle.logged_runs.specs.Reference.{version_for}
use Rattle.image_meaning.specs.Standing.{StandsFor}
use Rattle.cn_scheduler.specs.declared.plan.Plan.{Plan}
use Rattle.cn_scheduler.specs.declared.plan.PlanRow.{PlanRow}
use Rattle.cn_scheduler.specs.Point.{Point}
use Rattle.cn_scheduler.specs.Chunks.{Link, IsLawful, point_after, entries_of}
use Rattle.lawful_timeline.specs.Working.{IsSetUp, setting_of}
use Rattle.lawful_timeline.specs.Claims.{Begins}
use Rattle.lawful_timeline.specs.Starting.{StartsFresh, StartsSaved}
use Rattle.calm_timeline.specs.Calm.{IsCalm, board_after}
use Rattle.calm_timeline.specs.Claims.{IsServed, MeetsDeadlines}
use Rattle.recovery.specs.Past.{Past, done_at}
use Rattle.calm_timeline.specs.Numbers.{IsPlanned, IsFeasibleRow, IsBoardOf}

-- What an image has committed tells an arrival by one entry, in the version that is in force at its arrival, and the operation that
-- committed this entry ended by a tick.
pub record IsLoggedBy (program : Checked) (plan : Plan) (past : Past) (image : List ℕ) (event k d : ℕ) (arrival : Arrival) : Type 0 where
  pub moment : Moment
  pub stands : StandsFor plan.layout program image moment
  pub place : ℕ
  pub steps : ℕ
  pub begun : ℕ
  pub entry : slice_get moment.entries place ≡ Some (Ran event (version_for (setting_of program plan) event arrival) steps begun k)
  pub only : (i v n t : ℕ) → slice_get moment.entries i ≡ Some (Ran event v n t k) → i ≡ place
  pub in_time : done_at past place ≤ d

-- An arrival's job ended by a tick, and the image tells it then.
pub record IsToldBy (program : Checked) (plan : Plan) (past : Past) (links : List Link) (event k d : ℕ) (arrival : Arrival) : Type 0 where
  pub served : IsServed links event k d
  pub logged : IsLoggedBy program plan past served.job.after.board.image event k d arrival

-- what a board went through from a point on
abbrev pub past_of : Plan → Point → List Link → Past
past_of plan first links = record { layout = plan.layout; first = first.board.image; timeline = entries_of links }

-- all deadlines of a calm stretch are met, and the log tells each arrival that comes and is due in it
pub record IsTimely (program : Checked) (plan : Plan) (past : Past) (row : PlanRow) (start : Point) (links : List Link) (z : ℕ) : Type 0 where
  pub meets : MeetsDeadlines plan row start links z
  pub told : (event k : ℕ) (arrival : Arrival) → arrival_at plan.queue.arrivals event k ≡ Some arrival → start.board.tick ≤ arrival.tick →
      slice_index start.work.done event ≤ k → arrival.tick + slice_index plan.queue.deadlines event ≤ z →
      IsToldBy program plan past links event k (arrival.tick + slice_index plan.queue.deadlines event) arrival

-- so it is in every calm stretch, from whichever decision point on
abbrev pub AreTimely : Checked → Device → BoundsValue → Plan → ℕ → Point → List Link → Type 0
AreTimely program device b plan origin first links =
    (before after : List Link) (chunk : Link) (row : PlanRow) (p q z : ℕ) → links ≡ before ++ chunk ∷ after → IsFeasibleRow b device p q row →
    IsCalm device plan row p q origin (point_after first before) (chunk ∷ after) z → IsTimely program plan (past_of plan first links) row (point_after first before) (chunk ∷ after) z

-- the calm stretches of every run from its beginning on, where the image tells no more steps than ticks
abbrev pub TimelyLaw : Type 0
TimelyLaw =
    (program : Checked) (device : Device) (b : BoundsValue) (plan : Plan) (origin : ℕ) (first : Point) (links : List Link) →
    IsPlanned program device b plan → IsSetUp program plan → Begins program plan first → first.work.steps ≤ first.board.tick → IsBoardOf device origin first.board →
    IsLawful plan first links → AreTimely program device b plan origin first links

-- ---- from a fresh image

-- All deadlines of a calm stretch are met. The log tells each arrival that comes and is due in it, as soon as its job has ended and after
-- all chunks.
pub record IsOnTime (program : Checked) (plan : Plan) (past : Past) (row : PlanRow) (start : Point) (links : List Link) (z : ℕ) : Type 0 where
  pub meets : MeetsDeadlines plan row start links z
  pub told : (event k : ℕ) (arrival : Arrival) → arrival_at plan.queue.arrivals event k ≡ Some arrival → start.board.tick ≤ arrival.tick →
      arrival.tick + slice_index plan.queue.deadlines event ≤ z → IsToldBy program plan past links event k (arrival.tick + slice_index plan.queue.deadlines event) arrival
  pub logged : (event k : ℕ) (arrival : Arrival) → arrival_at plan.queue.arrivals event k ≡ Some arrival → start.board.tick ≤ arrival.tick →
      arrival.tick + slice_index plan.queue.deadlines event ≤ z →
      IsLoggedBy program plan past (board_after start links).image event k (arrival.tick + slice_index plan.queue.deadlines event) arrival

abbrev pub AreOnTime : Checked → Device → BoundsValue → Plan → ℕ → Point → List Link → Type 0
AreOnTime program device b plan origin first links =
    (before after : List Link) (chunk : Link) (row : PlanRow) (p q z : ℕ) → links ≡ before ++ chunk ∷ after → IsFeasibleRow b device p q row →
    IsCalm device plan row p q origin (point_after first before) (chunk ∷ after) z → IsOnTime program plan (past_of plan first links) row (point_after first before) (chunk ∷ after) z

-- The calm stretches of every run from a fresh image: no arrival that comes in one is done before.
abbrev pub FreshRunsAreOnTime : Type 0
FreshRunsAreOnTime =
    (program : Checked) (device : Device) (b : BoundsValue) (plan : Plan) (origin : ℕ) (first : Point) (links : List Link) →
    IsPlanned program device b plan → IsSetUp program plan → StartsFresh program plan first → IsBoardOf device origin first.board → IsLawful plan first links →
    AreOnTime program device b plan origin first links

-- So it is with every run that goes on from a saved image: no arrival that comes in a calm stretch is done before, by this run or by
-- the one whose image it was.
abbrev pub ResumedRunsAreOnTime : Type 0
ResumedRunsAreOnTime =
    (program : Checked) (device : Device) (b : BoundsValue) (plan : Plan) (origin : ℕ) (first : Point) (links : List Link) →
    IsPlanned program device b plan → IsSetUp program plan → StartsSaved program plan first → IsBoardOf device origin first.board → IsLawful plan first links →
    AreOnTime program device b plan origin first links
