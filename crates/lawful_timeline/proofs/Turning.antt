-- Timelines grow by turns.
use Rattle.std.proofs.Common.{◌≡◌, ◌<◌, ◌≤◌, false, [], refl}
use Rattle.nv_memory.specs.declared.device.Class.{Class}
use Rattle.cn_scheduler.specs.declared.plan.Plan.{Plan}
use Rattle.cn_scheduler.specs.declared.engine.Chunk.{Chunk}
use Rattle.cn_scheduler.specs.declared.engine.Chunk.TheVariants.{Ended}
use Rattle.cn_scheduler.specs.Point.{Point}
use Rattle.cn_scheduler.specs.Chunks.{is_last}
use Rattle.lawful_timeline.specs.Lines.{Reaches, Turned}
use Rattle.lawful_timeline.specs.Lines.Turned.{Did, Slept}
use Rattle.lawful_timeline.proofs.Lines.{reaches_asleep, reaches_more}
use Rattle.lawful_timeline.proofs.Times.{chunk_time, sleep_time}

module _ (plan : Plan) where
  pub none : (p : Point) → Reaches plan p Ended p
  none p = record { chunks = []; lawful = tt; leads = refl; last = refl; goes_on = λ is. tt }

  pub turn : (p q r : Point) (before outcome : Chunk) → is_last before ≡ false → Reaches plan p before q → Turned plan q outcome r → Reaches plan p outcome r
  turn p q r before outcome on so_far (Did choice chosen does) = reaches_more plan p q r before outcome choice on so_far chosen does
  turn p q r before outcome on so_far (Slept sleeps) = reaches_asleep plan p q r before outcome on so_far sleeps

  pub turn_time : (p q : Point) (outcome : Chunk) → ((kind : Class) → 1 ≤ p.board.ticks kind) → is_last outcome ≡ false → Turned plan p outcome q → p.board.tick < q.board.tick
  turn_time p q outcome some on (Did choice chosen does) = chunk_time plan p q outcome choice some on chosen does
  turn_time p q outcome some on (Slept sleeps) = sleep_time plan p q outcome on sleeps
