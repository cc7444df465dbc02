-- What a step does to a cursor.
use Rattle.std.proofs.Common.{◌≡◌, ℕ, zero, suc, ◌+◌, ◌<◌, ◌≤◌, List, [], ◌∷◌, length, drop, Some, None, refl, sym, ap, ◌∙◌, subst, arith}
use Rattle.std.specs.Prelude.{slice_get, pos}
use Rattle.std.proofs.lemmas.List.{drop_all}
use Rattle.cat_program.specs.declared.syntax.Expr.{Expr}
use Rattle.cat_program.specs.declared.syntax.Stmt.{Stmt}
use Rattle.cat_program.specs.declared.syntax.Stmt.TheVariants.{If, While}
use Rattle.cat_program.specs.Body.{Body, Empty, Plain, When, Choice, Loop, Turns, join, with_stmt, with_stmts, tree_of, block_at}
use Rattle.cat_program.specs.Value.{value_of}
use Rattle.cat_program.specs.Meaning.{Store, quietly, chosen, list_step}
use Rattle.cat_program.specs.Checked.{Checked, IsChecked, depth_of}
use Rattle.cat_program.specs.PartLaws.{BlocksAreTrees}
use Rattle.cat_eval.specs.declared.state.Frame.{Frame}
use Rattle.cat_eval.specs.Cursor.{frame_body, cursor_body, CursorFits, Settled}
use Rattle.cat_eval.specs.StateValue.{StateValue}

pub drop_next : (ss : List Stmt) (n : ℕ) (s : Stmt) → slice_get ss n ≡ Some s → drop n ss ≡ s ∷ drop (n + 1) ss
drop_next [] n s e = cc
drop_next (y ∷ ss) zero s e = let same : y ≡ s = cc in ap (λ z. z ∷ ss) same
drop_next (y ∷ ss) (suc n) s e = let more : suc (n + 1) ≡ suc n + 1 = omega arith in drop_next ss n s e ∙ ap (λ j. s ∷ drop j (y ∷ ss)) more

abbrev pub frame : ℕ → ℕ → Frame
frame b n = record { block = b; place = n }

-- a frame at a statement is the statement and the frame after it
pub frame_next : (p : Checked) (b n : ℕ) (s : Stmt) → slice_get (block_at p.blocks b) n ≡ Some s → frame_body p (frame b n) ≡ with_stmt (tree_of p.blocks) b n s (frame_body p (frame b (n + 1)))
frame_next p b n s e = ap (with_stmts (tree_of p.blocks) b n) (drop_next (block_at p.blocks b) n s e)

-- a frame at its block's end is empty
pub frame_over : (p : Checked) (b n : ℕ) → length (block_at p.blocks b) ≤ n → frame_body p (frame b n) ≡ Empty
frame_over p b n le = ap (with_stmts (tree_of p.blocks) b n) (drop_all n (block_at p.blocks b) le)

-- a frame at a block's beginning is the block
pub frame_first : BlocksAreTrees → (p : Checked) → IsChecked p → (b : ℕ) → b < length p.blocks → frame_body p (frame b 0) ≡ tree_of p.blocks b
frame_first law p checked b h = sym (law.tree p.blocks b checked.lower h)

-- so a frame at its end may be dropped
pub cursor_over : (p : Checked) (b n : ℕ) (fs : List Frame) → length (block_at p.blocks b) ≤ n → cursor_body p (frame b n ∷ fs) ≡ cursor_body p fs
cursor_over p b n fs le = ap (λ x. join x (cursor_body p fs)) (frame_over p b n le)

module _ (law : BlocksAreTrees) (p : Checked) (checked : IsChecked p) (b n : ℕ) (fs : List Frame) where
  abbrev Rest : Body
  Rest = cursor_body p (frame b (n + 1) ∷ fs)

  abbrev Inside : ℕ → ℕ → Body
  Inside a m = cursor_body p (frame a 0 ∷ frame b m ∷ fs)

  at_stmt : (s : Stmt) → slice_get (block_at p.blocks b) n ≡ Some s → cursor_body p (frame b n ∷ fs) ≡ join (with_stmt (tree_of p.blocks) b n s (frame_body p (frame b (n + 1)))) (cursor_body p fs)
  at_stmt s e = ap (λ x. join x (cursor_body p fs)) (frame_next p b n s e)

  -- a choice with no second side
  pub when_step : (e : Expr) (on : ℕ) (store : Store) → slice_get (block_at p.blocks b) n ≡ Some (If e on None) → on < length p.blocks → list_step (cursor_body p (frame b n ∷ fs)) store ≡ quietly store (Some (chosen (value_of e store.words (pos 0)) (Inside on (n + 1)) Rest))
  when_step e on store item h =
      ap (λ k. list_step k store) (at_stmt (If e on None) item)
      ∙ ap (λ x. quietly store (Some (chosen (value_of e store.words (pos 0)) (join x Rest) Rest))) (sym (frame_first law p checked on h))

  pub choice_step : (e : Expr) (on off : ℕ) (store : Store) → slice_get (block_at p.blocks b) n ≡ Some (If e on (Some off)) → on < length p.blocks → off < length p.blocks → list_step (cursor_body p (frame b n ∷ fs)) store ≡ quietly store (Some (chosen (value_of e store.words (pos 0)) (Inside on (n + 1)) (Inside off (n + 1))))
  choice_step e on off store item h k =
      ap (λ x. list_step x store) (at_stmt (If e on (Some off)) item)
      ∙ ap (λ x. quietly store (Some (chosen (value_of e store.words (pos 0)) (join x Rest) (join (tree_of p.blocks off) Rest)))) (sym (frame_first law p checked on h))
      ∙ ap (λ x. quietly store (Some (chosen (value_of e store.words (pos 0)) (Inside on (n + 1)) (join x Rest)))) (sym (frame_first law p checked off k))

  -- the frame of a while stays at it while its body is done
  pub while_step : (e : Expr) (body : ℕ) (store : Store) → slice_get (block_at p.blocks b) n ≡ Some (While e body) → body < length p.blocks → list_step (cursor_body p (frame b n ∷ fs)) store ≡ quietly store (Some (chosen (value_of e store.words (pos 0)) (Inside body n) Rest))
  while_step e body store item h =
      ap (λ x. list_step x store) (at_stmt (While e body) item)
      ∙ ap (λ x. quietly store (Some (chosen (value_of e store.words (pos 0)) (join x (Loop b n e (tree_of p.blocks body) Rest)) Rest))) (sym (frame_first law p checked body h))
      ∙ ap (λ x. quietly store (Some (chosen (value_of e store.words (pos 0)) (join (frame_body p (frame body 0)) x) Rest))) (sym (at_stmt (While e body) item))

-- a body has a depth, so no more than 31 frames stand below another
pub depth_some : (k : Body) → 1 ≤ depth_of k
depth_some Empty = omega arith
depth_some (Plain b p s rest) = depth_some rest
depth_some (When b p e on rest) = omega (arith, depth_some rest)
depth_some (Choice b p e on off rest) = omega (arith, depth_some rest)
depth_some (Loop b p e body rest) = omega (arith, depth_some rest)
depth_some (Turns b p n body rest) = omega (arith, depth_some rest)

pub few_frames : (p : Checked) (fs : List Frame) → CursorFits p fs → length fs ≤ 32
few_frames p [] fits = omega arith
few_frames p (f ∷ fs) fits = omega (arith, fits.0.depth, depth_some (frame_body p f))

-- the frames so far stand for the same list
pub record SettleLoop (p : Checked) (old now : StateValue) : Type 0 where
  pub same : now ≡ record old { frames = now.frames }
  pub cursor : cursor_body p old.frames ≡ cursor_body p now.frames
  pub fits : CursorFits p now.frames

pub settle_starts : (p : Checked) (s : StateValue) → CursorFits p s.frames → SettleLoop p s s
settle_starts p s fits = record { same = refl; cursor = refl; fits = fits }

abbrev with_frames : StateValue → List Frame → StateValue
with_frames s fs = record { words = s.words; posts = s.posts; running = s.running; frames = fs }

frames_are : (s new : StateValue) (f : Frame) → s ≡ with_frames new (f ∷ new.frames) → s.frames ≡ f ∷ new.frames
frames_are s new f e = ap (λ (x : StateValue). x.frames) e

rest_same : (old now new : StateValue) (f : Frame) → now ≡ with_frames old now.frames → now ≡ with_frames new (f ∷ new.frames) → new ≡ with_frames old new.frames
rest_same old now new f a b =
    let e = sym b ∙ a in
    ap (λ (x : StateValue). with_frames x new.frames) e

pub settle_goes : (p : Checked) (old now new : StateValue) (f : Frame) → SettleLoop p old now → now ≡ with_frames new (f ∷ new.frames) → length (block_at p.blocks f.block) ≤ f.place → SettleLoop p old new
settle_goes p old now new f l taken over =
    let fs = frames_are now new f taken in
    record {
      same = rest_same old now new f l.same taken;
      cursor = l.cursor ∙ ap (cursor_body p) fs ∙ cursor_over p f.block f.place new.frames over;
      fits = (subst (CursorFits p) fs l.fits).1;
    }

pub settle_stops : (p : Checked) (old now new : StateValue) (f : Frame) → SettleLoop p old now → now ≡ with_frames new (f ∷ new.frames) → f.place < length (block_at p.blocks f.block) → Settled p old new f
settle_stops p old now new f l taken within =
    let fs = frames_are now new f taken in
    record {
      same = rest_same old now new f l.same taken;
      cursor = l.cursor ∙ ap (cursor_body p) fs;
      fits = subst (CursorFits p) fs l.fits;
      within = within;
    }

pub settle_block : (p : Checked) (old now new : StateValue) (f : Frame) → SettleLoop p old now → now ≡ with_frames new (f ∷ new.frames) → f.block < length p.blocks
settle_block p old now new f l taken = (subst (CursorFits p) (frames_are now new f taken) l.fits).0.block
