-- What a timeline leaves to go on from, wherever it ends.
use Rattle.std.specs.Prelude.{◌≡◌, ◌≤◌, List, length}
use Rattle.cat_program.specs.Checked.{Checked}
use Rattle.nv_memory.specs.Layout.{size_of}
use Rattle.nv_memory.specs.Board.{State}
use Rattle.reference_run.specs.Reference.{Moment}
use Rattle.logged_runs.specs.Own.{IsOwn}
use Rattle.image_meaning.specs.Standing.{StandsFor}
use Rattle.cn_scheduler.specs.declared.plan.Plan.{Plan}
use Rattle.cn_scheduler.specs.Point.{Point}
use Rattle.cn_scheduler.specs.Chunks.{Link, IsLawful, point_after}
use Rattle.lawful_timeline.specs.Working.{IsSetUp, setting_of}
use Rattle.lawful_timeline.specs.Claims.{Begins}
use Rattle.lawful_timeline.specs.Points.{BeganBefore, TakesTime}

-- The image of a board stands for a run of its own, which has taken no more steps than ticks have passed, and each of whose jobs began
-- before now.
pub record HasSaved (program : Checked) (plan : Plan) (board : State) : Type 0 where
  pub moment : Moment
  pub stands : StandsFor plan.layout program board.image moment
  pub own : IsOwn (setting_of program plan) moment
  pub steps : moment.steps ≤ board.tick
  pub began : BeganBefore board.tick moment.entries
  pub large : size_of plan.layout ≤ length board.image

-- A timeline ends as it began, also where its last chunk stops in the middle of a commit.
pub record EndsHold (program : Checked) (plan : Plan) : Type 0 where
  pub saved : (p : Point) (cs : List Link) → IsSetUp program plan → Begins program plan p → HasSaved program plan p.board → TakesTime p.board → IsLawful plan p cs
      → HasSaved program plan (point_after p cs).board
  pub size : (p : Point) (cs : List Link) → IsSetUp program plan → Begins program plan p → IsLawful plan p cs → length (point_after p cs).board.image ≡ length p.board.image
