-- The first decision point of a timeline.
use Rattle.std.proofs.Common.{◌≡◌, ℤ, ◌≤◌, [], length, None, replicate, refl, sym, ap, ◌∙◌, subst, arith}
use Rattle.std.proofs.lemmas.List.{get_or-replicate, length-replicate}
use Rattle.cat_program.specs.Checked.{Checked}
use Rattle.cat_machine.specs.Code.{code_of}
use Rattle.cat_machine.specs.Fits.{Fits}
use Rattle.nv_memory.specs.Layout.{size_of}
use Rattle.nv_memory.specs.Board.{State}
use Rattle.recovery.specs.First.{IsFresh}
use Rattle.cn_scheduler.specs.declared.plan.Plan.{Plan}
use Rattle.cn_scheduler.specs.declared.engine.Engine.{Engine}
use Rattle.cn_scheduler.specs.Point.{Work, held_of, work_of}
use Rattle.cn_scheduler.specs.Belongs.{IsPlanOf, IsReady, BelongTogether}
use Rattle.cn_scheduler.specs.EnginePoint.{point_of, IsFirst}
use Rattle.cn_scheduler.proofs.Back.{fits_rest}

pub first_belongs : (program : Checked) (plan : Plan) (e : Engine) (board : State) → plan.code ≡ code_of program → IsPlanOf program plan → IsFirst program plan.layout e → IsFresh program plan.layout board.image → size_of plan.layout ≤ length board.image
    → BelongTogether program plan (point_of e board)
first_belongs program plan e board code_is plan_is is fresh image =
    let s = fresh.slot in
    let first = fresh.first in
    let checked = is.fits.checked in
    let w : Work = record { words = program.words; posts = program.started; place = None; len = 0; steps = 0; done = replicate plan.layout.events 0 } in
    let same : w ≡ work_of s = λ i. record { words = (sym first.variables) i; posts = (sym first.posts) i; place = (sym first.pc) i; len = (sym first.len) i; steps = (sym first.steps) i; done = (sym first.done) i } in
    record {
      plan_is = plan_is;
      image = image;
      committed = record { slot = s; current = None; entries = [] };
      is_committed = fresh.committed;
      committed_steps = omega (arith, first.steps);
      fits = subst (λ (x : Work). (payload : ℤ) → Fits program plan.code (held_of x payload)) (sym is.work) (fits_rest program plan.code w None checked code_is refl checked.started tt);
      events = ap (λ (x : Work). length x.done) is.work ∙ length-replicate plan.layout.events 0 ∙ plan_is.layout.events;
      steps = omega (arith, ap (λ (x : Work). x.steps) is.work);
      len = omega (arith, first.len);
      on = λ d. let both = sym d ∙ is.clean in cc;
      clean = λ d. is.work ∙ same;
      ready = subst (IsReady program plan board.image) (sym is.work) (record {
        current = None;
        entries = [];
        rests = tt;
        recorded = record { many = refl; entries_are = λ k entry found. absurd (cc); counted = λ ev below. get_or-replicate plan.layout.events ev 0 0 below };
        len_fits = omega arith;
      });
    }
