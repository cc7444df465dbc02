-- What the calls of an engine bring: chunks of a lawful timeline.
use Rattle.std.specs.Prelude.{◌≡◌, List, [], ◌∷◌, ◌++◌}
use Rattle.nv_memory.specs.declared.entry.Entry.{Entry}
use Rattle.nv_memory.specs.Board.{State}
use Rattle.cn_scheduler.specs.declared.plan.Plan.{Plan}
use Rattle.cn_scheduler.specs.declared.engine.Chunk.{Chunk}
use Rattle.cn_scheduler.specs.declared.engine.Chunk.TheVariants.{Ended}
use Rattle.cn_scheduler.specs.Point.{Point}
use Rattle.cn_scheduler.specs.Chunks.{Link, IsLawful, point_after}

-- the entries that stand behind those from before
pub record Extends (old new : State) : Type 0 where
  pub entries : List Entry
  pub timeline : new.timeline ≡ old.timeline ++ entries

-- what came of the last of some chunks
abbrev pub last_outcome : List Link → Chunk
last_outcome [] = Ended
last_outcome (c ∷ []) = c.outcome
last_outcome (c ∷ d ∷ cs) = last_outcome (d ∷ cs)

-- chunks, each as the policy names it, lead from one decision point to another
pub record AreChunks (plan : Plan) (p : Point) (outcome : Chunk) (q : Point) : Type 0 where
  pub chunks : List Link
  pub lawful : IsLawful plan p chunks
  pub leads : point_after p chunks ≡ q
  pub last : last_outcome chunks ≡ outcome
