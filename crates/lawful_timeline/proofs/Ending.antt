-- What a timeline leaves to go on from.
use Rattle.std.proofs.Common.{◌≡◌, inl, inr, ◌≤◌, true, false, List, [], ◌∷◌, length, refl, sym, ap, ◌∙◌, subst, arith}
use Rattle.std.specs.Prelude.{◌⊎◌}
use Rattle.std.proofs.lemmas.Bool.{cases_Bool}
use Rattle.cat_program.specs.Checked.{Checked}
use Rattle.nv_memory.specs.Board.{State}
use Rattle.recovery.specs.Committed.{Committed, IsCommitted}
use Rattle.reference_run.specs.Reference.{Moment}
use Rattle.image_meaning.specs.Standing.{moment_of}
use Rattle.image_meaning.specs.Laws.{ImagesStandForOne}
use Rattle.cn_scheduler.specs.declared.plan.Plan.{Plan}
use Rattle.cn_scheduler.specs.Point.{Point}
use Rattle.cn_scheduler.specs.Chunks.{IsLawful, Link, is_last, point_after}
use Rattle.lawful_timeline.specs.Working.{IsSetUp, setting_of}
use Rattle.lawful_timeline.specs.Claims.{Begins}
use Rattle.lawful_timeline.specs.Points.{BeganBefore, TakesTime}
use Rattle.lawful_timeline.specs.Ending.{HasSaved}
use Rattle.lawful_timeline.proofs.Times.{chunk_time}
use Rattle.lawful_timeline.proofs.Begun.{began_by, began_earlier, began_later}
use Rattle.lawful_timeline.proofs.Kept.{Kept, Laws, Next, Sound}
use Rattle.lawful_timeline.proofs.Whole.{one_chunk, sound_first}
use Rattle.lawful_timeline.proofs.Points.{time_next}

module _ (program : Checked) (plan : Plan) (laws : Laws program plan) (set_up : IsSetUp program plan) (one : ImagesStandForOne plan.layout program) where
  -- a board that still has committed what it had at a decision point
  saved_as : (p : Point) (v : Committed) (m : Moment) (board : State) → Sound program plan laws set_up p.board p.work v m p.dirty → IsCommitted plan.layout program board.image v → p.board.tick ≤ board.tick
      → length board.image ≡ length p.board.image → p.work.steps ≤ p.board.tick → BeganBefore p.board.tick m.entries → HasSaved program plan board
  saved_as p v m board sound committed later size few before = record {
    moment = moment_of v;
    stands = record { value = v; committed = committed; is = refl };
    own = sound.own;
    steps = (let ahead = sound.ahead.steps in let same = sound.holds.works.steps in omega arith);
    began = began_later v.entries p.board.tick board.tick later (began_earlier v.entries m.entries p.board.tick sound.ahead.entries before);
    large = (let all = sound.large in omega arith);
  }

  all_saved : (cs : List Link) (p : Point) (v : Committed) (m : Moment) → Sound program plan laws set_up p.board p.work v m p.dirty → TakesTime p.board → p.work.steps ≤ p.board.tick → BeganBefore p.board.tick m.entries
      → IsLawful plan p cs → HasSaved program plan (point_after p cs).board
  all_saved [] p v m sound time few before lawful = saved_as p v m p.board sound sound.committed (omega arith) refl few before
  all_saved (c ∷ cs) p v m sound time few before lawful = by (cases_Bool (is_last c.outcome)) (λ x y next there on_time begun. all_saved cs c.after x y next there on_time begun lawful.2)
    where
      kept : Kept program plan laws set_up v m p.board.tick c.outcome p.board c.after
      kept = one_chunk program plan laws set_up one p c v m sound lawful.0

      by : (is_last c.outcome ≡ true) ⊎ (is_last c.outcome ≡ false)
          → ((x : Committed) (y : Moment) → Sound program plan laws set_up c.after.board c.after.work x y c.after.dirty → TakesTime c.after.board → c.after.work.steps ≤ c.after.board.tick → BeganBefore c.after.board.tick y.entries
          → HasSaved program plan (point_after c.after cs).board) → HasSaved program plan (point_after c.after cs).board
      by (inl last) rest =
          subst (λ (l : List Link). HasSaved program plan (point_after c.after l).board) (sym (lawful.1 last))
          (saved_as p v m c.after.board sound (subst (λ (x : Committed). IsCommitted plan.layout program c.after.board.image x) (kept.stays last) kept.committed) kept.later kept.size few before)
      by (inr on) rest =
          let next : Next program plan laws set_up m kept.value p.board.tick c.outcome c.after = kept.next on in
          let later = chunk_time plan p c.after c.outcome c.choice time on lawful.0.chosen lawful.0.does in
          rest kept.value next.moment next.sound (time_next program plan laws set_up one p c.after c.choice c.outcome lawful.0.does time)
          (let most = next.most in let here = sound.holds.works.steps in let there = next.sound.holds.works.steps in omega arith)
          (began_by (setting_of program plan) next.moment p.board.tick c.after.board.tick next.sound.holds.works.own next.begun later)

  all_sizes : (cs : List Link) (p : Point) (v : Committed) (m : Moment) → Sound program plan laws set_up p.board p.work v m p.dirty → IsLawful plan p cs
      → length (point_after p cs).board.image ≡ length p.board.image
  all_sizes [] p v m sound lawful = refl
  all_sizes (c ∷ cs) p v m sound lawful = by (cases_Bool (is_last c.outcome)) (λ x y next. all_sizes cs c.after x y next lawful.2)
    where
      kept : Kept program plan laws set_up v m p.board.tick c.outcome p.board c.after
      kept = one_chunk program plan laws set_up one p c v m sound lawful.0

      by : (is_last c.outcome ≡ true) ⊎ (is_last c.outcome ≡ false)
          → ((x : Committed) (y : Moment) → Sound program plan laws set_up c.after.board c.after.work x y c.after.dirty → length (point_after c.after cs).board.image ≡ length c.after.board.image)
          → length (point_after c.after cs).board.image ≡ length p.board.image
      by (inl last) rest = ap (λ (l : List Link). length (point_after c.after l).board.image) (lawful.1 last) ∙ kept.size
      by (inr on) rest = rest kept.value (kept.next on).moment (kept.next on).sound ∙ kept.size

  pub saved_throughout : (p : Point) (cs : List Link) → Begins program plan p → HasSaved program plan p.board → TakesTime p.board → IsLawful plan p cs → HasSaved program plan (point_after p cs).board
  saved_throughout p cs begins saved time lawful =
      let sound : Sound program plan laws set_up p.board p.work begins.stands.value (moment_of begins.stands.value) p.dirty = sound_first program plan laws set_up one p begins in
      let same : moment_of begins.stands.value ≡ saved.moment = begins.stands.is ∙ one.once p.board.image begins.moment saved.moment begins.stands saved.stands in
      let steps : begins.stands.value.slot.steps ≡ saved.moment.steps = ap (λ (x : Moment). x.steps) same in
      all_saved cs p begins.stands.value (moment_of begins.stands.value) sound time (let here = sound.holds.works.steps in let few = saved.steps in omega arith)
      (subst (λ (x : Moment). BeganBefore p.board.tick x.entries) (sym same) saved.began) lawful

  pub sizes_throughout : (p : Point) (cs : List Link) → Begins program plan p → IsLawful plan p cs → length (point_after p cs).board.image ≡ length p.board.image
  sizes_throughout p cs begins lawful = all_sizes cs p begins.stands.value (moment_of begins.stands.value) (sound_first program plan laws set_up one p begins) lawful
