-- A replay of what was prepared begins.
use Rattle.std.proofs.Common.{◌≡◌, ap, arith}
use Rattle.cat_program.specs.Checked.{Checked}
use Rattle.nv_memory.specs.declared.device.Device.{Device}
use Rattle.nv_memory.specs.Board.{IsSound, Start, State}
use Rattle.checkpoint_slots.specs.declared.slot.Slot.{Slot}
use Rattle.checkpoint_slots.specs.Image.{committed_slot}
use Rattle.reference_run.specs.Reference.{Moment}
use Rattle.cn_scheduler.specs.declared.engine.End.{End}
use Rattle.cn_scheduler.specs.declared.plan.Plan.{Plan}
use Rattle.cn_scheduler.specs.Point.{Point, Work}
use Rattle.cn_scheduler.specs.Belongs.{BelongTogether}
use Rattle.lawful_timeline.specs.Working.{IsSetUp}
use Rattle.lawful_timeline.specs.Claims.{Begins, IsReplayed}
use Rattle.lawful_timeline.specs.Starting.{StartsBelong, StartsFresh}
use Rattle.timely_commits.specs.Timely.{FreshRunsAreOnTime}
use Rattle.cn_runtime.specs.OnTime.{IsOf, IsReplayedOnTime}

-- it has taken no steps
no_steps : (program : Checked) (plan : Plan) (p : Point) → StartsFresh program plan p → (b : Begins program plan p) → b.moment.steps ≡ 0
no_steps program plan p starts b =
    let a : b.stands.value.slot.steps ≡ b.moment.steps = ap (λ (m : Moment). m.steps) b.stands.is in
    let s : (committed_slot plan.layout p.board.image).steps ≡ b.stands.value.slot.steps = ap (λ (x : Slot). x.steps) b.stands.committed.slot_is in
    let w : p.work.steps ≡ (committed_slot plan.layout p.board.image).steps = ap (λ (x : Work). x.steps) b.work_is in
    let z : p.work.steps ≡ 0 = ap (λ (x : Work). x.steps) starts.work_is in
    omega arith

pub together : (program : Checked) (plan : Plan) (p : Point) → StartsBelong program plan → IsSetUp program plan → StartsFresh program plan p → BelongTogether program plan p
together program plan p law set_up starts =
    let b = law.begins p starts in
    let none = no_steps program plan p starts (law.begins p starts) in
    law.belong p set_up (law.begins p starts) (omega arith)

-- it is on time
pub on_time : (program : Checked) (device : Device) (plan : Plan) (from : Start) (p : Point) (end : End) (board : State) → FreshRunsAreOnTime → IsSetUp program plan → StartsFresh program plan p
    → IsOf device p.board → IsSound from p.board → IsReplayed program plan p end board → IsReplayedOnTime program device plan from.tick p end board
on_time program device plan from p end board law set_up starts of sound replayed = record {
  replayed = replayed;
  deadlines = λ b planned.
      law program device b plan from.tick p replayed.chunks planned set_up starts
      (record { cap = of.cap; ticks = of.ticks; some_ticks = sound.some_ticks; passed = sound.passed }) replayed.lawful;
}
