-- What holds at each decision point of a timeline on a board whose operations take time.
use Rattle.std.specs.Prelude.{◌≡◌, ◌⊎◌, ℕ, ◌<◌, ◌≤◌, List, Some, slice_get, slice_index}
use Rattle.cat_program.specs.declared.outs.LogEntry.{LogEntry}
use Rattle.cat_program.specs.declared.outs.LogEntry.TheVariants.{Ran}
use Rattle.cat_program.specs.Checked.{Checked}
use Rattle.nv_memory.specs.declared.device.Class.{Class}
use Rattle.nv_memory.specs.Board.{State}
use Rattle.reference_run.specs.Reference.{Moment}
use Rattle.logged_runs.specs.Laws.{last_start_of}
use Rattle.cn_scheduler.specs.declared.plan.Plan.{Plan}
use Rattle.cn_scheduler.specs.Point.{Point}
use Rattle.cn_scheduler.specs.Chunks.{Link, IsLawful}
use Rattle.cn_scheduler.specs.Belongs.{BelongTogether}
use Rattle.lawful_timeline.specs.Working.{IsSetUp, WorksAs}
use Rattle.lawful_timeline.specs.Claims.{Begins, EachPoint}

-- an operation of each class takes a tick at least
abbrev pub TakesTime : State → Type 0
TakesTime board = (kind : Class) → 1 ≤ board.ticks kind

-- each job that some entries tell began before a tick
abbrev pub BeganBefore : ℕ → List LogEntry → Type 0
BeganBefore tick entries = (i event version steps start index : ℕ) → slice_get entries i ≡ Some (Ran event version steps start index) → start < tick

-- no arrival is done
abbrev pub HasDoneNone : Plan → Point → Type 0
HasDoneNone plan p = (event : ℕ) → event < plan.layout.events → slice_index p.work.done event ≡ 0

-- The working value is at a moment of a run whose last job began before now, or no arrival is done.
pub record IsPastJobs (program : Checked) (plan : Plan) (q : Point) : Type 0 where
  pub moment : Moment
  pub works : WorksAs program plan q.board.image q.work moment
  pub before : (last_start_of moment.entries < q.board.tick) ⊎ HasDoneNone plan q

-- what holds at each decision point of a lawful timeline
pub record PointsHold (program : Checked) (plan : Plan) : Type 0 where
  -- plan, engine and board belong together, where they have taken no more steps than ticks at first
  pub belong : (p : Point) (cs : List Link) → IsSetUp program plan → Begins program plan p → TakesTime p.board → p.work.steps ≤ p.board.tick → IsLawful plan p cs
      → EachPoint (BelongTogether program plan) p cs
  -- no job began as late as now, where none did at first
  pub past : (p : Point) (cs : List Link) → IsSetUp program plan → (b : Begins program plan p) → TakesTime p.board → BeganBefore p.board.tick b.moment.entries → IsLawful plan p cs
      → EachPoint (IsPastJobs program plan) p cs
