-- How a lawful timeline ends on a board that follows a trace.
use Rattle.std.specs.Prelude.{◌≡◌, true, List}
use Rattle.cat_program.specs.Checked.{Checked}
use Rattle.nv_memory.specs.Board.{State}
use Rattle.board_core.specs.declared.origin.ModelOrigin.{ModelOrigin}
use Rattle.board_core.specs.Reached.{IsReached}
use Rattle.cn_scheduler.specs.declared.plan.Plan.{Plan}
use Rattle.cn_scheduler.specs.declared.engine.Chunk.{Chunk}
use Rattle.cn_scheduler.specs.Point.{Point}
use Rattle.cn_scheduler.specs.Chunks.{Link, IsLawful, is_last, point_after}
use Rattle.lawful_timeline.specs.Working.{IsSetUp}
use Rattle.lawful_timeline.specs.Claims.{Begins, last_outcome}

-- a lawful timeline from a point on has come to its end, by the rules of an origin
pub record HasEnded (plan : Plan) (origin : ModelOrigin) (p : Point) (outcome : Chunk) (board : State) : Type 0 where
  pub chunks : List Link
  pub lawful : IsLawful plan p chunks
  pub leads : (point_after p chunks).board ≡ board
  pub ends : last_outcome chunks ≡ outcome
  pub last : is_last outcome ≡ true
  pub reached : IsReached origin board

-- two such timelines end for the same reason, on the same board
abbrev pub EndsAlike : Checked → Plan → ModelOrigin → Type 0
EndsAlike program plan origin = (p : Point) (one other : Chunk) (s t : State) → IsSetUp program plan → Begins program plan p → IsReached origin p.board
    → HasEnded plan origin p one s → HasEnded plan origin p other t → (one ≡ other) × (s ≡ t)
