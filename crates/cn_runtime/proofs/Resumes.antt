-- A run of what was prepared goes on.
use Rattle.std.proofs.Common.{◌≡◌, length, sym, ◌∙◌, subst}
use Rattle.cat_program.specs.Checked.{Checked}
use Rattle.nv_memory.specs.declared.device.Device.{Device}
use Rattle.nv_memory.specs.Board.{IsSound, Start, State}
use Rattle.cn_scheduler.specs.declared.engine.End.{End}
use Rattle.cn_scheduler.specs.declared.engine.Engine.{Engine}
use Rattle.cn_scheduler.specs.declared.plan.Plan.{Plan}
use Rattle.cn_scheduler.specs.Point.{Point}
use Rattle.cn_scheduler.specs.Parts.{IsRestored}
use Rattle.cn_scheduler.specs.EnginePoint.{IsFirst, point_of}
use Rattle.cn_scheduler.specs.Belongs.{BelongTogether}
use Rattle.lawful_timeline.specs.Working.{IsSetUp}
use Rattle.lawful_timeline.specs.Claims.{IsReplayed}
use Rattle.lawful_timeline.specs.Starting.{StartsBelong, StartsSaved, saved_point}
use Rattle.timely_commits.specs.Timely.{ResumedRunsAreOnTime}
use Rattle.cn_runtime.specs.OnTime.{IsOf, IsReplayedOnTime}
use Rattle.cn_runtime.specs.Resumed.{CanGoOn}

module _ (program : Checked) (plan : Plan) (set_up : IsSetUp program plan) where
  -- the engine's state has the layout's size
  pub words_many : (e : Engine) → IsFirst program plan.layout e → length e.working.words ≡ plan.layout.words
  words_many e first = first.fits.shape.words_are ∙ sym set_up.plan_is.layout.words

  pub posts_many : (e : Engine) → IsFirst program plan.layout e → length e.working.posts ≡ plan.layout.tasks
  posts_many e first = first.fits.shape.posts_are ∙ sym set_up.plan_is.layout.tasks

  module _ (e : Engine) (board : State) (restored : IsRestored plan e board) where
    pub same_point : point_of e board ≡ saved_point plan.layout board
    same_point =
        let work = restored.work in
        let clean = restored.clean in
        λ k. record { board = board; work = work k; dirty = clean k }

    pub starts : CanGoOn program plan board → StartsSaved program plan (point_of e board)
    starts can = record { saved = can.saved; off = can.off; clean = restored.clean; work_is = restored.work }

    pub together : StartsBelong program plan → CanGoOn program plan board → BelongTogether program plan (point_of e board)
    together law can =
        let begun = law.saved (point_of e board) (starts can) in
        law.belong (point_of e board) set_up begun.begins begun.steps

    pub on_time : (device : Device) (from : Start) (end : End) (last : State) → ResumedRunsAreOnTime → CanGoOn program plan board → IsOf device board → IsSound from board
        → IsReplayed program plan (point_of e board) end last → IsReplayedOnTime program device plan from.tick (saved_point plan.layout board) end last
    on_time device from end last law can of sound replayed =
        subst (λ (p : Point). IsReplayedOnTime program device plan from.tick p end last) same_point
        (record {
          replayed = replayed;
          deadlines = λ b planned.
              law program device b plan from.tick (point_of e board) replayed.chunks planned set_up (starts can)
              (record { cap = of.cap; ticks = of.ticks; some_ticks = sound.some_ticks; passed = sound.passed }) replayed.lawful;
        })
