-- What a replay starts with.
use Rattle.std.proofs.Common.{◌≡◌, ℕ, ◌*◌, ◌≤◌, true, false, List, length, sym, ap, ◌∙◌, subst, arith, replicate}
use Rattle.std.specs.Prelude.{pos}
use Rattle.std.proofs.lemmas.List.{length-replicate}
use Rattle.cat_program.specs.Checked.{Checked}
use Rattle.cat_machine.specs.Fits.{Idle}
use Rattle.nv_memory.specs.Layout.{lines_of, size_of, slot_at}
use Rattle.nv_memory.specs.Laws.{PartsAreApart, WritesAreLocal}
use Rattle.checkpoint_slots.specs.declared.slot.Slot.{Slot}
use Rattle.checkpoint_slots.specs.Slot.{spelling}
use Rattle.checkpoint_slots.specs.Image.{committed_slot}
use Rattle.recovery.specs.Committed.{IsCommitted}
use Rattle.recovery.specs.First.{IsFirst, IsFresh}
use Rattle.reference_run.specs.Reference.{Moment, first_moment}
use Rattle.logged_runs.specs.Own.{IsOwn}
use Rattle.logged_runs.specs.Laws.{OwnRunsGoOn}
use Rattle.image_meaning.specs.Standing.{moment_of}
use Rattle.image_meaning.specs.Laws.{ImagesStandForOne}
use Rattle.cn_scheduler.specs.declared.plan.Plan.{Plan}
use Rattle.cn_scheduler.specs.Point.{Point, Work, work_of}
use Rattle.cn_scheduler.specs.Belongs.{BelongTogether}
use Rattle.lawful_timeline.specs.Working.{IsSetUp, setting_of}
use Rattle.lawful_timeline.specs.Claims.{Begins}
use Rattle.lawful_timeline.specs.Starting.{BeginsSaved, StartsFresh, StartsSaved, first_work}
use Rattle.lawful_timeline.proofs.Begun.{last_began}
use Rattle.lawful_timeline.proofs.Works.{Holds, committed_holds, shape_of}

module _ (program : Checked) (plan : Plan) (writes : WritesAreLocal) (parts : PartsAreApart plan.layout) (long : (s : Slot) → length (spelling plan.layout s) ≡ 64 * lines_of plan.layout)
    (one : ImagesStandForOne plan.layout program) (go_on : OwnRunsGoOn (setting_of program plan)) where
  pub fresh_size : (image : List ℕ) → IsFresh program plan.layout image → length image ≡ size_of plan.layout
  fresh_size image fresh =
      let zeros : length (replicate (size_of plan.layout) 0) ≡ size_of plan.layout = length-replicate (size_of plan.layout) 0 in
      let bytes = long fresh.slot in
      ap length fresh.image_is ∙ writes.size (slot_at plan.layout 0) (spelling plan.layout fresh.slot) (replicate (size_of plan.layout) 0) (omega (arith, zeros, bytes, parts.log 0 (omega arith), parts.fits)) ∙ zeros

  first_again : (slot : Slot) → IsFirst program plan.layout slot → first_work program plan.layout ≡ work_of slot
  first_again slot first =
      let words = sym first.variables in
      let posts = sym first.posts in
      let place = sym first.pc in
      let len = sym first.len in
      let steps = sym first.steps in
      let done = sym first.done in
      λ k. record { words = words k; posts = posts k; place = place k; len = len k; steps = steps k; done = done k }

  pub begins : (p : Point) → StartsFresh program plan p → Begins program plan p
  begins p starts = record {
    moment = first_moment program;
    stands = one.fresh p.board.image starts.fresh;
    own = go_on.first;
    start = omega arith;
    large = (let size = fresh_size p.board.image starts.fresh in omega arith);
    off = starts.off;
    clean = starts.clean;
    work_is = starts.work_is ∙ first_again starts.fresh.slot starts.fresh.first ∙ ap work_of (sym starts.fresh.committed.slot_is);
  }

  pub fresh : (p : Point) → StartsFresh program plan p → StartsSaved program plan p
  fresh p starts = record {
    saved = record {
      moment = first_moment program;
      stands = one.fresh p.board.image starts.fresh;
      own = go_on.first;
      steps = omega arith;
      began = λ i event version steps start index is. cc;
      large = (let size = fresh_size p.board.image starts.fresh in omega arith);
    };
    off = starts.off;
    clean = starts.clean;
    work_is = starts.work_is ∙ first_again starts.fresh.slot starts.fresh.first ∙ ap work_of (sym starts.fresh.committed.slot_is);
  }

-- a saved image begins
pub saved : (program : Checked) (plan : Plan) (p : Point) → StartsSaved program plan p → BeginsSaved program plan p
saved program plan p starts =
    let is : IsCommitted plan.layout program p.board.image starts.saved.stands.value = starts.saved.stands.committed in
    let work : p.work.steps ≡ (committed_slot plan.layout p.board.image).steps = ap (λ (w : Work). w.steps) starts.work_is in
    let slot : (committed_slot plan.layout p.board.image).steps ≡ starts.saved.stands.value.slot.steps = ap (λ (s : Slot). s.steps) is.slot_is in
    let moment : starts.saved.stands.value.slot.steps ≡ starts.saved.moment.steps = ap (λ (m : Moment). m.steps) starts.saved.stands.is in
    let few = starts.saved.steps in
    record {
      begins = record {
        moment = starts.saved.moment;
        stands = starts.saved.stands;
        own = starts.saved.own;
        start = last_began starts.saved.moment.entries p.board.tick starts.saved.began;
        large = starts.saved.large;
        off = starts.off;
        clean = starts.clean;
        work_is = starts.work_is;
      };
      steps = starts.saved.steps;
      few = omega arith;
      began = starts.saved.began;
    }

-- what begins belongs together
pub belong : (program : Checked) (plan : Plan) (p : Point) → IsSetUp program plan → (b : Begins program plan p) → b.moment.steps ≤ p.board.tick → BelongTogether program plan p
belong program plan p set_up b steps =
    let v = b.stands.value in
    let is : IsCommitted plan.layout program p.board.image b.stands.value = b.stands.committed in
    let own : IsOwn (setting_of program plan) (moment_of b.stands.value) = subst (λ (m : Moment). IsOwn (setting_of program plan) m) (sym b.stands.is) b.own in
    let work_is : p.work ≡ work_of b.stands.value.slot = b.work_is ∙ ap work_of is.slot_is in
    let holds : Holds program plan p.board.image p.work (moment_of b.stands.value) =
    subst (λ (w : Work). Holds program plan p.board.image w (moment_of b.stands.value)) (sym work_is) (committed_holds program plan set_up p.board.image b.stands.value is own) in
    let low : b.stands.value.slot.steps ≤ p.board.tick = (let e : b.stands.value.slot.steps ≡ b.moment.steps = ap (λ (m : Moment). m.steps) b.stands.is in omega arith) in
    record {
      plan_is = set_up.plan_is;
      image = b.large;
      committed = b.stands.value;
      is_committed = is;
      committed_steps = low;
      fits = λ payload. record {
        checked = set_up.checked;
        code_is = set_up.code_is;
        shape = shape_of program plan set_up p.work (moment_of b.stands.value) p.board.image payload holds;
        stands = Idle (record { state = (moment_of b.stands.value).state; corresponds = holds.works.state payload });
      };
      events = holds.counts ∙ set_up.plan_is.layout.events;
      steps = (let e : p.work.steps ≡ b.stands.value.slot.steps = ap (λ (w : Work). w.steps) work_is in omega arith);
      len = (let e : p.work.len ≡ b.stands.value.slot.len = ap (λ (w : Work). w.len) work_is in omega arith);
      on = λ dirty. absurd (let e : true ≡ false = sym dirty ∙ b.clean in cc);
      clean = λ clean. work_is;
      ready = record {
        current = (moment_of b.stands.value).state.current;
        entries = b.stands.value.entries;
        rests = (holds.works.state (pos 0)).place;
        recorded = record { many = sym holds.works.len; entries_are = holds.works.spells; counted = holds.works.done };
        len_fits = (
            let e : p.work.len ≡ b.stands.value.slot.len = ap (λ (w : Work). w.len) work_is in
            let f : (committed_slot plan.layout p.board.image).len ≡ b.stands.value.slot.len = ap (λ (s : Slot). s.len) is.slot_is in
            let low : (committed_slot plan.layout p.board.image).len ≤ plan.layout.log = is.formed.len_fits in
            omega arith
            );
      };
    }
