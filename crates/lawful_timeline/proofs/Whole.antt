-- One induction over the chunks of a timeline.
use Rattle.std.proofs.Common.{◌≡◌, inl, inr, ℕ, zero, suc, ◌≤◌, Bool, true, false, List, [], ◌∷◌, ◌++◌, take, refl, sym, ap, ◌∙◌, subst, arith, append_assoc, append-nil}
use Rattle.std.specs.Prelude.{◌⊎◌}
use Rattle.std.proofs.lemmas.List.{append_cancel_left}
use Rattle.std.proofs.lemmas.Bool.{cases_Bool}
use Rattle.cat_program.specs.Checked.{Checked}
use Rattle.nv_memory.specs.declared.entry.Entry.{Entry}
use Rattle.nv_memory.specs.Board.{State, image_after, image_by}
use Rattle.recovery.specs.Committed.{Committed, IsCommitted}
use Rattle.reference_run.specs.Reference.{Moment}
use Rattle.logged_runs.specs.Own.{IsEarlier, IsOwn}
use Rattle.logged_runs.specs.Laws.{last_start_of}
use Rattle.image_meaning.specs.Standing.{StandsFor, moment_of}
use Rattle.image_meaning.specs.Laws.{ImagesStandForOne}
use Rattle.cn_scheduler.specs.declared.plan.Plan.{Plan}
use Rattle.cn_scheduler.specs.declared.choice.Choice.{Choice}
use Rattle.cn_scheduler.specs.declared.choice.Choice.TheVariants.{Checkpoint, Job, Section, Sleep, Wake}
use Rattle.cn_scheduler.specs.declared.engine.Chunk.{Chunk}
use Rattle.cn_scheduler.specs.InForce.{floor_at}
use Rattle.cn_scheduler.specs.Point.{Point, Work, work_of}
use Rattle.cn_scheduler.specs.Policy.{Chooses}
use Rattle.cn_scheduler.specs.Chunks.{Does, IsChunk, IsLawful, Link, entries_of, is_last, point_after}
use Rattle.lawful_timeline.specs.Working.{IsSetUp, setting_of}
use Rattle.lawful_timeline.specs.Claims.{AreAbove, Begins, EachPoint, IsAtWork, HoldsThroughout, KeepsFloor, NeverFalls}
use Rattle.lawful_timeline.proofs.Asking.{Left}
use Rattle.lawful_timeline.proofs.Saving.{Grows, grows-append, image_by-append}
use Rattle.lawful_timeline.proofs.Works.{Holds, committed_holds}
use Rattle.lawful_timeline.proofs.Policies.{chosen_clean}
use Rattle.lawful_timeline.proofs.Kept.{Kept, Laws, Next, Sound, kept_checkpoint, kept_job, kept_section, kept_sleep, kept_wake, no_path, section_left}

module _ (program : Checked) (plan : Plan) (laws : Laws program plan) (set_up : IsSetUp program plan) (one : ImagesStandForOne plan.layout program) where
  -- ---- the images of a chain

  -- an image that stands for a moment, which goes on from one before
  record At (image : List ℕ) (v : Committed) : Type 0 where
    value : Committed
    committed : IsCommitted plan.layout program image value
    own : IsOwn (setting_of program plan) (moment_of value)
    ahead : IsEarlier (setting_of program plan) (moment_of v) (moment_of value)

  at_index : (image : List ℕ) (es : List Entry) (v w : Committed) → IsCommitted plan.layout program image v → IsOwn (setting_of program plan) (moment_of v) → Grows plan.layout (setting_of program plan) v image es w
      → (i : ℕ) → At (image_by (take i es) image) v
  at_index image es v w is own grows zero = record { value = v; committed = is; own = own; ahead = laws.ordered.itself (moment_of v) own }
  at_index image [] v w is own grows (suc i) = record { value = v; committed = is; own = own; ahead = laws.ordered.itself (moment_of v) own }
  at_index image (e ∷ es) v w is own grows (suc i) =
      let mid = grows.0 in
      let rest : At (image_by (take i es) (image_after e.op image)) grows.0 = at_index (image_after e.op image) es grows.0 w grows.1 grows.2 grows.4 i in
      record { value = rest.value; committed = rest.committed; own = rest.own; ahead = laws.ordered.onward (moment_of v) (moment_of grows.0) (moment_of rest.value) grows.3 rest.ahead }

  stands_as : (image : List ℕ) (m : Moment) (v : Committed) → StandsFor plan.layout program image m → IsCommitted plan.layout program image v → moment_of v ≡ m
  stands_as image m v stands is = one.once image (moment_of v) m (record { value = v; committed = is; is = refl }) stands

  in_order : (image : List ℕ) (es : List Entry) (v w : Committed) → IsCommitted plan.layout program image v → IsOwn (setting_of program plan) (moment_of v) → Grows plan.layout (setting_of program plan) v image es w
      → (i j : ℕ) (m n : Moment) → i ≤ j → StandsFor plan.layout program (image_by (take i es) image) m → StandsFor plan.layout program (image_by (take j es) image) n → IsEarlier (setting_of program plan) m n
  in_order image es v w is own grows zero j m n le first second =
      let at : At (image_by (take j es) image) v = at_index image es v w is own grows j in
      subst (λ (x : Moment). IsEarlier (setting_of program plan) x n) (stands_as image m v first is)
      (subst (λ (x : Moment). IsEarlier (setting_of program plan) (moment_of v) x) (stands_as (image_by (take j es) image) n at.value second at.committed) at.ahead)
  in_order image es v w is own grows (suc i) zero m n le first second = absurd (omega arith)
  in_order image [] v w is own grows (suc i) (suc j) m n le first second =
      subst (λ (x : Moment). IsEarlier (setting_of program plan) x n) (stands_as image m v first is)
      (subst (λ (x : Moment). IsEarlier (setting_of program plan) (moment_of v) x) (stands_as image n v second is) (laws.ordered.itself (moment_of v) own))
  in_order image (e ∷ es) v w is own grows (suc i) (suc j) m n le first second =
      in_order (image_after e.op image) es grows.0 w grows.1 grows.2 grows.4 i j m n (omega arith) first second

  -- ---- one chunk

  by_kind : (b : State) (w : Work) (v : Committed) (m : Moment) (dirty : Bool) → Sound program plan laws set_up b w v m dirty → (choice : Choice) (outcome : Chunk) (q : Point)
      → Chooses plan (record { board = b; work = w; dirty = dirty }) choice → Does plan (record { board = b; work = w; dirty = dirty }) choice outcome q → Kept program plan laws set_up v m b.tick outcome b q
  by_kind b w v m dirty sound Section outcome q chosen does = kept_section program plan laws set_up b w v m dirty sound outcome q does
  by_kind b w v m dirty sound (Job due) outcome q chosen does = kept_job program plan laws set_up b w v m dirty sound due chosen outcome q does
  by_kind b w v m dirty sound Checkpoint outcome q chosen does = kept_checkpoint program plan laws set_up b w v m dirty sound outcome q does
  by_kind b w v m dirty sound Wake outcome q chosen does = kept_wake program plan laws set_up b w v m dirty sound outcome q does
  by_kind b w v m dirty sound Sleep outcome q chosen does = kept_sleep program plan laws set_up b w v m dirty sound outcome q (chosen_clean plan (record { board = b; work = w; dirty = dirty }) chosen) does

  pub one_chunk : (p : Point) (c : Link) (v : Committed) (m : Moment) → Sound program plan laws set_up p.board p.work v m p.dirty → IsChunk plan p c → Kept program plan laws set_up v m p.board.tick c.outcome p.board c.after
  one_chunk p c v m sound is = by_kind p.board p.work v m p.dirty sound c.choice c.outcome c.after is.chosen is.does

  section_floor : (p : Point) (v : Committed) (m : Moment) → Sound program plan laws set_up p.board p.work v m p.dirty → (choice : Choice) (outcome : Chunk) (q : Point) (entries : List Entry) → Does plan p choice outcome q
      → q.board.timeline ≡ p.board.timeline ++ entries → choice ≡ Section → AreAbove (floor_at plan.rows) entries
  section_floor p v m sound Section outcome q entries does timeline is =
      let left : Left plan.layout program p.work.len (floor_at plan.rows) p.board q.board = section_left program plan laws set_up p.board p.work v m p.dirty sound outcome q does.run does.asked in
      subst (AreAbove (floor_at plan.rows)) (append_cancel_left p.board.timeline left.entries entries (sym left.timeline ∙ timeline)) left.above
  section_floor p v m sound (Job due) outcome q entries does timeline is = cc
  section_floor p v m sound Checkpoint outcome q entries does timeline is = cc
  section_floor p v m sound Wake outcome q entries does timeline is = cc
  section_floor p v m sound Sleep outcome q entries does timeline is = cc

  at_work : (p : Point) (v : Committed) (m : Moment) → Sound program plan laws set_up p.board p.work v m p.dirty → IsAtWork program plan p
  at_work p v m sound =
      record {
        moment = m;
        works = sound.holds.works;
        start = sound.start;
        saved = λ clean. record { value = v; committed = sound.committed; is = sym (sound.clean clean) };
      }

  -- ---- all chunks

  record GoesOn (p : Point) (v : Committed) (cs : List Link) : Type 0 where
    final : Committed
    timeline : (point_after p cs).board.timeline ≡ p.board.timeline ++ entries_of cs
    image : (point_after p cs).board.image ≡ image_by (entries_of cs) p.board.image
    grows : Grows plan.layout (setting_of program plan) v p.board.image (entries_of cs) final
    points : EachPoint (IsAtWork program plan) p cs
    floor : KeepsFloor plan cs
    steps : NeverFalls p cs

  -- a chunk's own entries
  same_entries : (p : Point) (c : Link) (v : Committed) (m : Moment) (kept : Kept program plan laws set_up v m p.board.tick c.outcome p.board c.after) → IsChunk plan p c → kept.entries ≡ c.entries
  same_entries p c v m kept is = append_cancel_left p.board.timeline kept.entries c.entries (sym kept.timeline ∙ is.timeline)

  ends : (p : Point) (c : Link) (v : Committed) (m : Moment) → Sound program plan laws set_up p.board p.work v m p.dirty → IsChunk plan p c → is_last c.outcome ≡ true → GoesOn p v (c ∷ [])
  ends p c v m sound is last =
      let kept : Kept program plan laws set_up v m p.board.tick c.outcome p.board c.after = one_chunk p c v m sound is in
      let same : kept.entries ≡ c.entries ++ [] = same_entries p c v m kept is ∙ sym (append-nil c.entries) in
      record {
        final = kept.value;
        timeline = kept.timeline ∙ ap (λ (es : List Entry). p.board.timeline ++ es) same;
        image = kept.image ∙ ap (λ (es : List Entry). image_by es p.board.image) same;
        grows = subst (λ (es : List Entry). Grows plan.layout (setting_of program plan) v p.board.image es kept.value) same kept.grows;
        points = (at_work p v m sound, λ on. absurd (no_path (sym last ∙ on)));
        floor = (λ section. section_floor p v m sound c.choice c.outcome c.after c.entries is.does is.timeline section, tt);
        steps = (λ on not_lost. absurd (no_path (sym last ∙ on)), tt);
      }

  all_chunks : (cs : List Link) (p : Point) (v : Committed) (m : Moment) → Sound program plan laws set_up p.board p.work v m p.dirty → IsLawful plan p cs → GoesOn p v cs
  all_chunks [] p v m sound lawful = record {
    final = v;
    timeline = sym (append-nil p.board.timeline);
    image = refl;
    grows = refl;
    points = at_work p v m sound;
    floor = tt;
    steps = tt;
  }
  all_chunks (c ∷ cs) p v m sound lawful = by (cases_Bool (is_last c.outcome)) (λ x y next. all_chunks cs c.after x y next lawful.2)
    where
      by : (is_last c.outcome ≡ true) ⊎ (is_last c.outcome ≡ false) → ((x : Committed) (y : Moment) → Sound program plan laws set_up c.after.board c.after.work x y c.after.dirty → GoesOn c.after x cs) → GoesOn p v (c ∷ cs)
      by (inl last) later = subst (λ (l : List Link). GoesOn p v (c ∷ l)) (sym (lawful.1 last)) (ends p c v m sound lawful.0 last)
      by (inr on) later =
          let kept : Kept program plan laws set_up v m p.board.tick c.outcome p.board c.after = one_chunk p c v m sound lawful.0 in
          let next : Next program plan laws set_up m kept.value p.board.tick c.outcome c.after = kept.next on in
          let rest : GoesOn c.after kept.value cs = later kept.value next.moment next.sound in
          let same : kept.entries ≡ c.entries = same_entries p c v m kept lawful.0 in
          let image : c.after.board.image ≡ image_by c.entries p.board.image = kept.image ∙ ap (λ (es : List Entry). image_by es p.board.image) same in
          record {
            final = rest.final;
            timeline = rest.timeline ∙ ap (λ (es : List Entry). es ++ entries_of cs) lawful.0.timeline ∙ append_assoc p.board.timeline c.entries (entries_of cs);
            image = rest.image ∙ ap (λ (i : List ℕ). image_by (entries_of cs) i) image ∙ sym (image_by-append c.entries (entries_of cs) p.board.image);
            grows = grows-append plan.layout (setting_of program plan) v kept.value rest.final p.board.image c.entries (entries_of cs)
                (subst (λ (es : List Entry). Grows plan.layout (setting_of program plan) v p.board.image es kept.value) same kept.grows)
                (subst (λ (i : List ℕ). Grows plan.layout (setting_of program plan) kept.value i (entries_of cs) rest.final) image rest.grows);
            points = (at_work p v m sound, λ goes_on. rest.points);
            floor = (λ section. section_floor p v m sound c.choice c.outcome c.after c.entries lawful.0.does lawful.0.timeline section, rest.floor);
            steps = (
              λ goes_on not_lost.
                  let rises = next.steps not_lost in
                  let before = sound.holds.works.steps in
                  let after = next.sound.holds.works.steps in
                  omega arith,
              rest.steps,
            );
          }

  -- ---- from the beginning

  pub sound_first : (p : Point) (begins : Begins program plan p) → Sound program plan laws set_up p.board p.work begins.stands.value (moment_of begins.stands.value) p.dirty
  sound_first p begins =
      let committed : IsCommitted plan.layout program p.board.image begins.stands.value = begins.stands.committed in
      let own : IsOwn (setting_of program plan) (moment_of begins.stands.value) = subst (λ (x : Moment). IsOwn (setting_of program plan) x) (sym begins.stands.is) begins.own in
      let start : last_start_of begins.stands.value.entries ≤ p.board.tick = subst (λ (x : Moment). last_start_of x.entries ≤ p.board.tick) (sym begins.stands.is) begins.start in
      let work_is : p.work ≡ work_of begins.stands.value.slot = begins.work_is ∙ ap work_of begins.stands.committed.slot_is in
      record {
        committed = committed;
        own = own;
        holds = subst (λ (w : Work). Holds program plan p.board.image w (moment_of begins.stands.value)) (sym work_is) (committed_holds program plan set_up p.board.image begins.stands.value committed own);
        ahead = laws.ordered.itself (moment_of begins.stands.value) own;
        start = start;
        start_saved = start;
        clean = λ is. refl;
        same = λ is. work_is;
        large = begins.large;
      }

  pub holds_throughout : (p : Point) (cs : List Link) → Begins program plan p → IsLawful plan p cs → HoldsThroughout program plan p cs
  holds_throughout p cs begins lawful =
      let sound = sound_first p begins in
      let committed : IsCommitted plan.layout program p.board.image begins.stands.value = begins.stands.committed in
      let all : GoesOn p begins.stands.value cs = all_chunks cs p begins.stands.value (moment_of begins.stands.value) (sound_first p begins) lawful in
      record {
        timeline = all.timeline;
        image = all.image;
        images = λ i le. (
            let at : At (image_by (take i (entries_of cs)) p.board.image) begins.stands.value = at_index p.board.image (entries_of cs) begins.stands.value all.final committed sound.own all.grows i in
            (moment_of at.value, record { value = at.value; committed = at.committed; is = refl }, at.own, laws.go_on.served (moment_of at.value) at.own)
            );
        earlier = λ i j m n le within first second. in_order p.board.image (entries_of cs) begins.stands.value all.final committed sound.own all.grows i j m n le first second;
        points = all.points;
        floor = all.floor;
        steps = all.steps;
      }
