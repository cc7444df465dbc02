-- Going on from a saved image.
use Rattle.std.specs.Prelude.{◌≡◌, false}
use Rattle.cat_program.specs.Checked.{Checked}
use Rattle.nv_memory.specs.Board.{State}
use Rattle.cn_scheduler.specs.declared.plan.Plan.{Plan}
use Rattle.lawful_timeline.specs.Ending.{HasSaved}

-- A run can go on from a board that is off, and whose image stands for a run of the plan's program, arrivals and versions, with no more
-- steps than ticks, each of whose jobs began before now.
pub record CanGoOn (program : Checked) (plan : Plan) (board : State) : Type 0 where
  pub off : board.on ≡ false
  pub saved : HasSaved program plan board
