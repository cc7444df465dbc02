-- How a task begins, and how its list ends.
use Rattle.std.proofs.Common.{◌≡◌, ℕ, zero, suc, ◌<◌, ◌≤◌, true, false, List, [], ◌∷◌, length, Option, Some, None, refl, sym, ap, ◌∙◌, subst, arith}
use Rattle.std.specs.Prelude.{map, slice_index, MatchOption}
use Rattle.std.proofs.Math.ListN.{length-set}
use Rattle.std.proofs.lemmas.List.Quantifiers.{position-Some}
use Rattle.cat_program.specs.declared.syntax.Stepped.{Stepped}
use Rattle.cat_program.specs.declared.syntax.Stepped.TheVariants.{None as NoStep, Quiet}
use Rattle.cat_program.specs.Body.{Body, Empty, Plain, When, Choice, Loop, Turns, join, tree_of}
use Rattle.cat_program.specs.Places.{body_size, tasks_size}
use Rattle.cat_program.specs.Meaning.{Store, TaskState, TaskStep, lowered, first_posted, taken, step_from, task_step_of, list_step, quietly}
use Rattle.cat_program.specs.Checked.{Checked, IsChecked, TaskWorks, body_at, depth_of}
use Rattle.cat_program.specs.PartLaws.{EachPart, BlocksAreTrees}
use Rattle.cat_eval.specs.declared.state.Frame.{Frame}
use Rattle.cat_eval.specs.StateValue.{StateValue}
use Rattle.cat_eval.specs.Cursor.{first_frame, frame_body, cursor_body, current_of, state_of, FrameFits, Fits, AtFrame, Settled}
use Rattle.cat_eval.specs.Steps.{store_of, StepIs, StepsAt, StepsAs}
use Rattle.cat_eval.proofs.Frames.{frame, frame_first}

join_empty : (body : Body) → join body Empty ≡ body
join_empty Empty = refl
join_empty (Plain b p s rest) = ap (Plain b p s) (join_empty rest)
join_empty (When b p e on rest) = ap (When b p e on) (join_empty rest)
join_empty (Choice b p e on off rest) = ap (Choice b p e on off) (join_empty rest)
join_empty (Loop b p e body rest) = ap (Loop b p e body) (join_empty rest)
join_empty (Turns b p n body rest) = ap (Turns b p n body) (join_empty rest)

module _ (g : ℕ → Body) where
  size_at : (bs : List ℕ) (t : ℕ) → t < length bs → body_size (g (slice_index bs t)) ≤ tasks_size (map g bs)
  size_at [] t h = absurd (omega arith)
  size_at (b ∷ bs) zero h = omega arith
  size_at (b ∷ bs) (suc t) h = omega (arith, size_at bs t (omega arith))

pub task_fits : (p : Checked) → BlocksAreTrees → EachPart p → IsChecked p → (t : ℕ) → t < length p.tasks → FrameFits p 0 (first_frame (slice_index p.tasks t))
task_fits p law parts checked t h =
    let b = slice_index p.tasks t in
    let task = parts.tasks t h in
    let first = frame_first law p checked b task.block in
    record {
      block = task.block;
      depth = omega (arith, ap depth_of first, task.shallow);
      size = omega (arith, ap body_size first, size_at (tree_of p.blocks) p.tasks t h, checked.short);
      works = subst (TaskWorks (length p.words) (length p.tasks)) (sym first) task.works;
    }

pub posted_task : (p : Checked) (s : StateValue) (t : ℕ) → Fits p s → first_posted s.posts ≡ Some t → t < length p.tasks
posted_task p s t fits first = let within = (position-Some _ s.posts t 0 first).0 in omega (arith, within, fits.posts_are)

module _ (p : Checked) (old : StateValue) (fits : Fits p old) (idle : old.running ≡ false) where
  -- where no task is current
  idle_step : task_step_of (body_at p) (state_of p old) ≡ taken (body_at p) (store_of old) (first_posted old.posts)
  idle_step = ap (λ r. step_from (body_at p) (store_of old) (current_of p r old.frames)) idle

  pub none_is : first_posted old.posts ≡ None → StepsAs p old NoStep old
  none_is first = subst (λ o. MatchOption o ((NoStep ≡ NoStep) × (old ≡ old)) (λ step. StepIs p step NoStep old)) (sym (idle_step ∙ ap (taken (body_at p) (store_of old)) first)) (refl, refl)

  pub begins : BlocksAreTrees → EachPart p → (t : ℕ) (new : StateValue) → first_posted old.posts ≡ Some t → new ≡ record { words = old.words; posts = lowered old.posts t; running = true; frames = first_frame (slice_index p.tasks t) ∷ old.frames } → StepsAs p old Quiet new
  begins law parts t new first state =
      let within = posted_task p old t fits first in
      let b = slice_index p.tasks t in
      let store : Store = record { words = old.words; posts = lowered old.posts t } in
      let after : StateValue = record { words = old.words; posts = lowered old.posts t; running = true; frames = first_frame b ∷ [] } in
      let here : new ≡ after = state ∙ ap (λ fs. let v : StateValue = record { words = old.words; posts = lowered old.posts t; running = true; frames = first_frame b ∷ fs } in v) (fits.idle idle) in
      let body : cursor_body p (first_frame b ∷ []) ≡ body_at p t = join_empty (frame_body p (frame b 0)) ∙ frame_first law p fits.checked b (parts.tasks t within).block in
      let is : StepIs p (quietly store (Some (body_at p t))) Quiet after = record {
        answers = refl;
        after = ap (λ k. let s : TaskState = record { store = store; current = Some k } in s) body;
        fits = record { checked = fits.checked; words_are = fits.words_are; posts_are = length-set old.posts t _ ∙ fits.posts_are; cursor = (task_fits p law parts fits.checked t within, tt); idle = λ x. cc };
      } in
      subst (λ n. StepsAs p old Quiet n) (sym here)
      (subst (λ o. MatchOption o ((Quiet ≡ NoStep) × (after ≡ old)) (λ step. StepIs p step Quiet after)) (sym (idle_step ∙ ap (taken (body_at p) (store_of old)) first)) is)

module _ (p : Checked) (old : StateValue) (fits : Fits p old) (runs : old.running ≡ true) where
  -- where a list is current
  pub running_step : (answer : Stepped) (new : StateValue) → StepIs p (list_step (cursor_body p old.frames) (store_of old)) answer new → StepsAs p old answer new
  running_step answer new is =
      let here : task_step_of (body_at p) (state_of p old) ≡ Some (list_step (cursor_body p old.frames) (store_of old)) = ap (λ r. step_from (body_at p) (store_of old) (current_of p r old.frames)) runs in
      subst (λ o. MatchOption o ((answer ≡ NoStep) × (new ≡ old)) (λ step. StepIs p step answer new)) (sym here) is

  pub list_ends : (mid new : StateValue) → cursor_body p old.frames ≡ Empty → mid ≡ record old { frames = [] } → new ≡ record mid { running = false } → StepIs p (list_step (cursor_body p old.frames) (store_of old)) Quiet new
  list_ends mid new body cut state =
      let after : StateValue = record { words = old.words; posts = old.posts; running = false; frames = [] } in
      let here : new ≡ after = state ∙ ap (λ (m : StateValue). let v : StateValue = record { words = m.words; posts = m.posts; running = false; frames = m.frames } in v) cut in
      let is : StepIs p (list_step Empty (store_of old)) Quiet after = record {
        answers = refl;
        after = refl;
        fits = record { checked = fits.checked; words_are = fits.words_are; posts_are = fits.posts_are; cursor = tt; idle = λ x. refl };
      } in
      subst (λ n. StepIs p (list_step (cursor_body p old.frames) (store_of old)) Quiet n) (sym here) (subst (λ k. StepIs p (list_step k (store_of old)) Quiet after) (sym body) is)

  pub settled_at : (mid : StateValue) (f : Frame) → Settled p old mid f → AtFrame p mid f
  settled_at mid f s = record {
    checked = fits.checked;
    words_are = ap (λ (m : StateValue). length m.words) s.same ∙ fits.words_are;
    posts_are = ap (λ (m : StateValue). length m.posts) s.same ∙ fits.posts_are;
    running = ap (λ (m : StateValue). m.running) s.same ∙ runs;
    cursor = s.fits;
    within = s.within;
  }

  pub settled_step : (mid new : StateValue) (f : Frame) (answer : Stepped) → Settled p old mid f → StepsAt p mid f answer new → StepIs p (list_step (cursor_body p old.frames) (store_of old)) answer new
  settled_step mid new f answer s is =
      let store : store_of mid ≡ store_of old = ap store_of s.same in
      subst (λ k. StepIs p (list_step k (store_of old)) answer new) (sym s.cursor) (subst (λ x. StepIs p (list_step (cursor_body p (f ∷ mid.frames)) x) answer new) store is)

-- a state that fits goes on to fit
pub steps_fit : (p : Checked) (old : StateValue) (answer : Stepped) (new : StateValue) → Fits p old → StepsAs p old answer new → Fits p new
steps_fit p old answer new fits steps = by_step (task_step_of (body_at p) (state_of p old)) steps
  where
    by_step : (o : Option TaskStep) → MatchOption o ((answer ≡ NoStep) × (new ≡ old)) (λ step. StepIs p step answer new) → Fits p new
    by_step None h = subst (Fits p) (sym h.1) fits
    by_step (Some step) h = h.fits
