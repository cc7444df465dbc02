-- What a step does at a statement.
use Rattle.std.proofs.Common.{◌≡◌, ℕ, suc, ◌+◌, ◌<◌, ◌≤◌, Bool, true, false, List, ◌∷◌, length, Option, Some, None, refl, sym, ap, ◌∙◌, subst, arith}
use Rattle.std.specs.Prelude.{ℤ, pos, slice_get, if◌then◌else◌}
use Rattle.std.proofs.Math.ListN.{length-set}
use Rattle.cat_program.specs.declared.syntax.Expr.{Expr}
use Rattle.cat_program.specs.declared.syntax.Stmt.{Stmt}
use Rattle.cat_program.specs.declared.syntax.Stmt.TheVariants.{Set, SetAt, Out, Post, If, While, Repeat}
use Rattle.cat_program.specs.declared.syntax.Stepped.{Stepped}
use Rattle.cat_program.specs.declared.syntax.Stepped.TheVariants.{Quiet}
use Rattle.cat_program.specs.Value.{value_of, is_nought}
use Rattle.cat_program.specs.Body.{Body, Simple, SetWord, SetElement, Emit, Raise, Plain, join, with_stmt, tree_of, block_at}
use Rattle.cat_program.specs.Places.{body_size}
use Rattle.cat_program.specs.Meaning.{Store, TaskState, TaskStep, effect, output, answer_of, list_step}
use Rattle.cat_program.specs.Checked.{Checked, IsChecked, TaskWorks, NamesLower, depth_of}
use Rattle.cat_program.specs.PartLaws.{BlocksAreTrees}
use Rattle.cat_eval.specs.declared.state.Frame.{Frame}
use Rattle.cat_eval.specs.StateValue.{StateValue}
use Rattle.cat_eval.specs.Cursor.{next_frame, first_frame, opened, frame_body, cursor_body, state_of, FrameFits, CursorFits, Fits, AtFrame}
use Rattle.cat_eval.specs.Steps.{store_of, acted, StepIs, StepsAt, chosen_block}
use Rattle.cat_eval.proofs.Frames.{frame, frame_next, frame_first, when_step, choice_step, while_step}

-- ---- a statement and what follows it

module _ (f : ℕ → Body) (b n : ℕ) (rest : Body) where
  stmt_depth : (s : Stmt) → depth_of rest ≤ depth_of (with_stmt f b n s rest)
  stmt_depth (Set word value) = omega arith
  stmt_depth (SetAt base len index value) = omega arith
  stmt_depth (Out channel value) = omega arith
  stmt_depth (Post task) = omega arith
  stmt_depth (If test on None) = omega arith
  stmt_depth (If test on (Some off)) = omega arith
  stmt_depth (While test body) = omega arith
  stmt_depth (Repeat count body) = omega arith

  pub stmt_size : (s : Stmt) → 1 + body_size rest ≤ body_size (with_stmt f b n s rest)
  stmt_size (Set word value) = omega arith
  stmt_size (SetAt base len index value) = omega arith
  stmt_size (Out channel value) = omega arith
  stmt_size (Post task) = omega arith
  stmt_size (If test on None) = omega arith
  stmt_size (If test on (Some off)) = omega arith
  stmt_size (While test body) = omega arith
  stmt_size (Repeat count body) = omega arith

  pub stmt_works : (w t : ℕ) (s : Stmt) → TaskWorks w t (with_stmt f b n s rest) → TaskWorks w t rest
  stmt_works w t (Set word value) h = h.2
  stmt_works w t (SetAt base len index value) h = h.2
  stmt_works w t (Out channel value) h = h.2
  stmt_works w t (Post task) h = h.2
  stmt_works w t (If test on None) h = h.2
  stmt_works w t (If test on (Some off)) h = h.3
  stmt_works w t (While test body) h = h.2
  stmt_works w t (Repeat count body) h = absurd h

-- ---- frames

module _ (p : Checked) (below b n : ℕ) (s : Stmt) (item : slice_get (block_at p.blocks b) n ≡ Some s) (fits : FrameFits p below (frame b n)) where
  abbrev Rest : Body
  Rest = frame_body p (frame b (n + 1))

  abbrev Here : Body
  Here = with_stmt (tree_of p.blocks) b n s Rest

  pub works_here : TaskWorks (length p.words) (length p.tasks) Here
  works_here = subst (TaskWorks (length p.words) (length p.tasks)) (frame_next p b n s item) fits.works

  -- the frame after the statement
  pub next_fits : FrameFits p below (frame b (n + 1))
  next_fits = record {
    block = fits.block;
    depth = omega (arith, fits.depth, ap depth_of (frame_next p b n s item), stmt_depth (tree_of p.blocks) b n Rest s);
    size = omega (arith, fits.size, ap body_size (frame_next p b n s item), stmt_size (tree_of p.blocks) b n Rest s);
    works = stmt_works (tree_of p.blocks) b n Rest (length p.words) (length p.tasks) s works_here;
  }

  -- a frame at the beginning of a block that the statement names
  inside_fits : BlocksAreTrees → (checked : IsChecked p) (a : ℕ) → a < length p.blocks → 1 + depth_of (tree_of p.blocks a) ≤ depth_of Here → body_size (tree_of p.blocks a) ≤ body_size Here → TaskWorks (length p.words) (length p.tasks) (tree_of p.blocks a) → FrameFits p (suc below) (frame a 0)
  inside_fits law checked a h deep small works =
      let first = frame_first law p checked a h in
      record {
        block = h;
        depth = omega (arith, fits.depth, ap depth_of (frame_next p b n s item), deep, ap depth_of first);
        size = omega (arith, fits.size, ap body_size (frame_next p b n s item), small, ap body_size first);
        works = subst (TaskWorks (length p.words) (length p.tasks)) (sym first) works;
      }

  lower_here : BlocksAreTrees → IsChecked p → NamesLower b s
  lower_here law checked = law.lower p.blocks b n s checked.lower item

-- what a step makes of a state
module _ (p : Checked) where
  abbrev running_at : Store → List Frame → StateValue
  running_at store fs = record { words = store.words; posts = store.posts; running = true; frames = fs }

  abbrev step_by : Stepped → Store → Body → TaskStep
  step_by a store k = record { answer = a; after = record { store = store; current = Some k } }

  made : (step : TaskStep) (answer a : Stepped) (new : StateValue) (store : Store) (k : Body) (fs : List Frame) → IsChecked p → step ≡ step_by a store k → answer ≡ a → new ≡ running_at store fs → k ≡ cursor_body p fs → length store.words ≡ length p.words → length store.posts ≡ length p.tasks → CursorFits p fs → StepIs p step answer new
  made step answer a new store k fs checked is e state body words posts cursor =
      let here : StepIs p (step_by a store k) answer new = record {
        answers = e;
        after = ap (state_of p) state ∙ ap (λ x. let s : TaskState = record { store = store; current = Some x } in s) (sym body);
        fits = subst (Fits p) (sym state) (record { checked = checked; words_are = words; posts_are = posts; cursor = cursor; idle = λ x. cc });
      } in
      subst (λ st. StepIs p st answer new) (sym is) here

pub effect_words : (s : Simple) (x : ℤ) (store : Store) → length (effect s x store).words ≡ length store.words
effect_words (SetWord word value) x store = length-set store.words word _
effect_words (SetElement base len index value) x store = length-set store.words _ _
effect_words (Emit channel value) x store = refl
effect_words (Raise task) x store = refl

pub effect_posts : (s : Simple) (x : ℤ) (store : Store) → length (effect s x store).posts ≡ length store.posts
effect_posts (SetWord word value) x store = refl
effect_posts (SetElement base len index value) x store = refl
effect_posts (Emit channel value) x store = refl
effect_posts (Raise task) x store = length-set store.posts task _

module _ (law : BlocksAreTrees) (p : Checked) (old new : StateValue) (f : Frame) (at : AtFrame p old f) where
  abbrev Fs : List Frame
  Fs = old.frames

  -- a simple statement
  pub plain_is : (s : Stmt) (simple : Simple) (answer : Stepped) → slice_get (block_at p.blocks f.block) f.place ≡ Some s → with_stmt (tree_of p.blocks) f.block f.place s (frame_body p (next_frame f)) ≡ Plain f.block f.place simple (frame_body p (next_frame f)) → answer ≡ answer_of (output simple (pos 0) (store_of old)) → new ≡ record (acted simple (pos 0) old) { frames = next_frame f ∷ old.frames } → StepsAt p old f answer new
  plain_is s simple answer item is e state =
      let store = store_of old in
      let after = effect simple (pos 0) store in
      made p _ answer (answer_of (output simple (pos 0) store)) new after (cursor_body p (next_frame f ∷ Fs)) (next_frame f ∷ Fs) at.checked
      (ap (λ x. list_step (join x (cursor_body p Fs)) store) (frame_next p f.block f.place s item ∙ is))
      e
      (state ∙ ap (λ r. let v : StateValue = record { words = after.words; posts = after.posts; running = r; frames = next_frame f ∷ Fs } in v) at.running)
      refl
      (effect_words simple (pos 0) store ∙ at.words_are)
      (effect_posts simple (pos 0) store ∙ at.posts_are)
      (next_fits p (length Fs) f.block f.place s item at.cursor.0, at.cursor.1)

  -- a choice: the frame goes on after it, and the chosen block's frame is put on
  module _ (test : Expr) (on : ℕ) where
    inside_bound : (off : Option ℕ) → slice_get (block_at p.blocks f.block) f.place ≡ Some (If test on off) → NamesLower f.block (If test on off)
    inside_bound off item = lower_here p (length Fs) f.block f.place (If test on off) item at.cursor.0 law at.checked

    pub branch_fits : (off taken : Option ℕ) → slice_get (block_at p.blocks f.block) f.place ≡ Some (If test on off) → taken ≡ chosen_block test old.words on off → CursorFits p (opened taken (next_frame f ∷ Fs))
    branch_fits off taken item is = subst (λ o. CursorFits p (opened o (next_frame f ∷ Fs))) (sym is) (by_test off item (is_nought (value_of test old.words (pos 0))))
      where
        fits : FrameFits p (length Fs) (frame f.block f.place)
        fits = at.cursor.0

        by_test : (o : Option ℕ) → slice_get (block_at p.blocks f.block) f.place ≡ Some (If test on o) → (t : Bool) → CursorFits p (opened (if t then o else Some on) (next_frame f ∷ Fs))
        by_test None e true = (next_fits p (length Fs) f.block f.place (If test on None) e fits, at.cursor.1)
        by_test None e false =
            let s = If test on None in
            let works = works_here p (length Fs) f.block f.place s e fits in
            let within : on < length p.blocks = omega (arith, inside_bound None e, fits.block) in
            (inside_fits p (length Fs) f.block f.place s e fits law at.checked on within (omega arith) (omega arith) works.1, (next_fits p (length Fs) f.block f.place s e fits, at.cursor.1))
        by_test (Some a) e true =
            let s = If test on (Some a) in
            let works = works_here p (length Fs) f.block f.place s e fits in
            let within : a < length p.blocks = omega (arith, (inside_bound (Some a) e).1, fits.block) in
            (inside_fits p (length Fs) f.block f.place s e fits law at.checked a within (omega arith) (omega arith) works.2, (next_fits p (length Fs) f.block f.place s e fits, at.cursor.1))
        by_test (Some a) e false =
            let s = If test on (Some a) in
            let works = works_here p (length Fs) f.block f.place s e fits in
            let within : on < length p.blocks = omega (arith, (inside_bound (Some a) e).0, fits.block) in
            (inside_fits p (length Fs) f.block f.place s e fits law at.checked on within (omega arith) (omega arith) works.1, (next_fits p (length Fs) f.block f.place s e fits, at.cursor.1))

    branch_body : (off : Option ℕ) → slice_get (block_at p.blocks f.block) f.place ≡ Some (If test on off) → list_step (cursor_body p (f ∷ Fs)) (store_of old) ≡ step_by p Quiet (store_of old) (cursor_body p (opened (chosen_block test old.words on off) (next_frame f ∷ Fs)))
    branch_body None item =
        let within : on < length p.blocks = omega (arith, inside_bound None item, at.cursor.0.block) in
        when_step law p at.checked f.block f.place Fs test on (store_of old) item within ∙ ap (step_by p Quiet (store_of old)) (by_test (is_nought (value_of test old.words (pos 0))))
      where
        by_test : (t : Bool) → (if t then cursor_body p (next_frame f ∷ Fs) else cursor_body p (first_frame on ∷ next_frame f ∷ Fs)) ≡ cursor_body p (opened (if t then None else Some on) (next_frame f ∷ Fs))
        by_test true = refl
        by_test false = refl
    branch_body (Some a) item =
        let within : on < length p.blocks = omega (arith, (inside_bound (Some a) item).0, at.cursor.0.block) in
        let within' : a < length p.blocks = omega (arith, (inside_bound (Some a) item).1, at.cursor.0.block) in
        choice_step law p at.checked f.block f.place Fs test on a (store_of old) item within within' ∙ ap (step_by p Quiet (store_of old)) (by_test (is_nought (value_of test old.words (pos 0))))
      where
        by_test : (t : Bool) → (if t then cursor_body p (first_frame a ∷ next_frame f ∷ Fs) else cursor_body p (first_frame on ∷ next_frame f ∷ Fs)) ≡ cursor_body p (opened (if t then Some a else Some on) (next_frame f ∷ Fs))
        by_test true = refl
        by_test false = refl

    pub branch_is : (off taken : Option ℕ) → slice_get (block_at p.blocks f.block) f.place ≡ Some (If test on off) → taken ≡ chosen_block test old.words on off → new ≡ record old { frames = opened taken (next_frame f ∷ old.frames) } → StepsAt p old f Quiet new
    branch_is off taken item is state =
        made p _ Quiet Quiet new (store_of old) (cursor_body p (opened (chosen_block test old.words on off) (next_frame f ∷ Fs))) (opened taken (next_frame f ∷ Fs)) at.checked
        (branch_body off item)
        refl
        (state ∙ ap (λ r. let v : StateValue = record { words = old.words; posts = old.posts; running = r; frames = opened taken (next_frame f ∷ Fs) } in v) at.running)
        (ap (λ o. cursor_body p (opened o (next_frame f ∷ Fs))) (sym is))
        at.words_are at.posts_are (branch_fits off taken item is)

  -- a while: its frame stays at it while its body is done
  module _ (test : Expr) (body : ℕ) (item : slice_get (block_at p.blocks f.block) f.place ≡ Some (While test body)) where
    loop_within : body < length p.blocks
    loop_within = omega (arith, lower_here p (length Fs) f.block f.place (While test body) item at.cursor.0 law at.checked, at.cursor.0.block)

    -- the frames after the test
    abbrev pub loop_frames : Option ℕ → List Frame
    loop_frames None = next_frame f ∷ Fs
    loop_frames (Some b) = first_frame b ∷ f ∷ Fs

    pub loop_fits : (taken : Option ℕ) → taken ≡ chosen_block test old.words body None → CursorFits p (loop_frames taken)
    loop_fits taken is = subst (λ o. CursorFits p (loop_frames o)) (sym is) (by_test (is_nought (value_of test old.words (pos 0))))
      where
        by_test : (t : Bool) → CursorFits p (loop_frames (if t then None else Some body))
        by_test true = (next_fits p (length Fs) f.block f.place (While test body) item at.cursor.0, at.cursor.1)
        by_test false =
            let works = works_here p (length Fs) f.block f.place (While test body) item at.cursor.0 in
            (inside_fits p (length Fs) f.block f.place (While test body) item at.cursor.0 law at.checked body loop_within (omega arith) (omega arith) works.1, at.cursor)

    pub loop_is : (taken : Option ℕ) → taken ≡ chosen_block test old.words body None → new ≡ record old { frames = loop_frames taken } → StepsAt p old f Quiet new
    loop_is taken is state =
        made p _ Quiet Quiet new (store_of old) (cursor_body p (loop_frames (chosen_block test old.words body None))) (loop_frames taken) at.checked
        (while_step law p at.checked f.block f.place Fs test body (store_of old) item loop_within ∙ ap (step_by p Quiet (store_of old)) (by_test (is_nought (value_of test old.words (pos 0)))))
        refl
        (state ∙ ap (λ r. let v : StateValue = record { words = old.words; posts = old.posts; running = r; frames = loop_frames taken } in v) at.running)
        (ap (λ o. cursor_body p (loop_frames o)) (sym is))
        at.words_are at.posts_are (loop_fits taken is)
      where
        by_test : (t : Bool) → (if t then cursor_body p (next_frame f ∷ Fs) else cursor_body p (first_frame body ∷ f ∷ Fs)) ≡ cursor_body p (loop_frames (if t then None else Some body))
        by_test true = refl
        by_test false = refl
