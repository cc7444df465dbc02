-- The scheduler's engine goes on where its calls keep it together with the plan and the board.
use Rattle.std.proofs.Common.{◌≡◌, ◌≢◌, true, false, sym, ap, ◌∙◌}
use Rattle.cat_program.specs.Checked.{Checked}
use Rattle.nv_memory.specs.Board.{State}
use Rattle.cn_scheduler.specs.declared.plan.Plan.{Plan}
use Rattle.cn_scheduler.specs.declared.engine.Engine.{Engine}
use Rattle.cn_scheduler.specs.declared.engine.Chunk.{Chunk}
use Rattle.cn_scheduler.specs.declared.engine.Chunk.TheVariants.{Over, Full}
use Rattle.cn_scheduler.specs.Belongs.{BelongTogether}
use Rattle.cn_scheduler.specs.Chunks.{is_last}
use Rattle.cn_scheduler.specs.EnginePoint.{IsAtRest, IsKept, point_of}

pub goes_on : (plan : Plan) (e e' : Engine) (old new : State) (outcome : Chunk) → IsKept plan e old outcome e' new → (program : Checked) × BelongTogether program plan (point_of e old) → is_last outcome ≡ false
    → IsAtRest plan.layout e' × ((program : Checked) × BelongTogether program plan (point_of e' new))
goes_on plan e e' old new outcome kept together further = (
  kept.rest not_over not_full,
  (together.0, kept.belongs not_over not_full together.0 together.1),
)
  where
    not_over : outcome ≢ Over
    not_over same = let last : true ≡ false = ap is_last (sym same) ∙ further in cc

    not_full : outcome ≢ Full
    not_full same = let last : true ≡ false = ap is_last (sym same) ∙ further in cc
