-- Lawful timelines as they grow, chunk by chunk.
use Rattle.std.specs.Prelude.{◌≡◌, ◌<◌, ◌≤◌, false, List, [], ◌∷◌}
use Rattle.nv_memory.specs.declared.device.Class.{Class}
use Rattle.cn_scheduler.specs.declared.plan.Plan.{Plan}
use Rattle.cn_scheduler.specs.declared.choice.Choice.{Choice}
use Rattle.cn_scheduler.specs.declared.engine.Chunk.{Chunk}
use Rattle.cn_scheduler.specs.declared.engine.Chunk.TheVariants.{Ended}
use Rattle.cn_scheduler.specs.Point.{Point}
use Rattle.cn_scheduler.specs.Policy.{Chooses}
use Rattle.cn_scheduler.specs.Chunks.{Does, IsLawful, Link, SleepsOn, is_last, point_after}
use Rattle.lawful_timeline.specs.Claims.{last_outcome}

-- another chunk may come after each of these
abbrev pub NoneIsLast : List Link → Type 0
NoneIsLast [] = Unit {0}
NoneIsLast (c ∷ cs) = (is_last c.outcome ≡ false) × NoneIsLast cs

-- what comes of one turn: the chunk that is chosen, or some ticks of sleep
pub data Turned (plan : Plan) (p : Point) (outcome : Chunk) (q : Point) : Type 0 where
  Did : (choice : Choice) → Chooses plan p choice → Does plan p choice outcome q → Turned plan p outcome q
  Slept : SleepsOn plan p outcome q → Turned plan p outcome q

-- a lawful timeline that leads to a point, and whose last chunk came out so
pub record Reaches (plan : Plan) (p : Point) (outcome : Chunk) (q : Point) : Type 0 where
  pub chunks : List Link
  pub lawful : IsLawful plan p chunks
  pub leads : point_after p chunks ≡ q
  pub last : last_outcome chunks ≡ outcome
  pub goes_on : is_last outcome ≡ false → NoneIsLast chunks

-- a timeline grows by turns, and each of them but a last one takes time
pub record TimelinesGrow (plan : Plan) : Type 0 where
  pub none : (p : Point) → Reaches plan p Ended p
  pub turn : (p q r : Point) (before outcome : Chunk) → is_last before ≡ false → Reaches plan p before q → Turned plan q outcome r → Reaches plan p outcome r
  pub time : (p q : Point) (outcome : Chunk) → ((kind : Class) → 1 ≤ p.board.ticks kind) → is_last outcome ≡ false → Turned plan p outcome q → p.board.tick < q.board.tick
