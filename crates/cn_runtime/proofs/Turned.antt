-- A replay ends with its last turn.
use Rattle.std.proofs.Common.{◌≡◌, ◌-◌, ◌<◌, ◌≤◌, false, sym, ap, ◌∙◌, subst, arith}
use Rattle.cn_base.specs.declared.TheConstants.{MOST_TICKS}
use Rattle.cat_program.specs.Checked.{Checked}
use Rattle.nv_memory.specs.declared.device.Class.{Class}
use Rattle.nv_memory.specs.Board.{IsSound, Start, State}
use Rattle.cn_scheduler.specs.declared.plan.Plan.{Plan}
use Rattle.cn_scheduler.specs.declared.engine.Chunk.{Chunk}
use Rattle.cn_scheduler.specs.declared.engine.End.{End}
use Rattle.cn_scheduler.specs.Point.{Point}
use Rattle.cn_scheduler.specs.Chunks.{is_last}
use Rattle.lawful_timeline.specs.Working.{IsSetUp}
use Rattle.lawful_timeline.specs.Claims.{Begins, EndsAs, IsReplayed, LawfulTimelinesHold}
use Rattle.lawful_timeline.specs.Lines.{Reaches, TimelinesGrow, Turned}

-- a timeline that has come to its end is a replay
pub replayed : (program : Checked) (plan : Plan) (p q : Point) (outcome : Chunk) (end : End) (board : State) → LawfulTimelinesHold program plan → IsSetUp program plan → Begins program plan p
    → Reaches plan p outcome q → EndsAs end outcome → q.board ≡ board → IsReplayed program plan p end board
replayed program plan p q outcome end board holds set_up begins so_far ends leads = record {
  chunks = so_far.chunks;
  lawful = so_far.lawful;
  leads = ap (λ (x : Point). x.board) so_far.leads ∙ leads;
  ends = subst (λ (x : Chunk). EndsAs end x) (sym so_far.last) ends;
  holds = holds.holds p so_far.chunks set_up begins so_far.lawful;
}

-- with each turn but a last one there is less time left
pub less_time : (plan : Plan) → TimelinesGrow plan → (p q : Point) (outcome : Chunk) (s t : State) (from from' : Start) → p.board ≡ s → q.board ≡ t → IsSound from s → IsSound from' t → is_last outcome ≡ false → Turned plan p outcome q
    → MOST_TICKS - t.tick < MOST_TICKS - s.tick
less_time plan grow p q outcome s t from from' here there sound sound' on turned =
    let some : (kind : Class) → 1 ≤ p.board.ticks kind = subst (λ (x : State). (kind : Class) → 1 ≤ x.ticks kind) (sym here) sound.some_ticks in
    let later = grow.time p q outcome some on turned in
    let a : p.board.tick ≡ s.tick = ap (λ (x : State). x.tick) here in
    let b : q.board.tick ≡ t.tick = ap (λ (x : State). x.tick) there in
    let c = sound'.in_life in
    let d = sound'.life_in_range in
    omega arith
