-- What a state at a statement has room for, and what the statement may read.
use Rattle.std.proofs.Common.{◌≡◌, ℕ, ◌<◌, List, ◌∷◌, length, true, Option, Some, None, sym, ap, ◌∙◌, subst, arith}
use Rattle.std.specs.Prelude.{slice_get}
use Rattle.cat_program.specs.declared.syntax.Expr.{Expr}
use Rattle.cat_program.specs.declared.syntax.Stmt.{Stmt}
use Rattle.cat_program.specs.declared.syntax.Stmt.TheVariants.{If, While}
use Rattle.cat_program.specs.Body.{block_at, with_stmt, tree_of}
use Rattle.cat_program.specs.Places.{body_size}
use Rattle.cat_program.specs.Checked.{Checked, Reads, TaskWorks}
use Rattle.cat_eval.specs.declared.state.Frame.{Frame}
use Rattle.cat_eval.specs.StateValue.{StateValue}
use Rattle.cat_eval.specs.Cursor.{next_frame, frame_body, CursorFits, AtFrame}
use Rattle.cat_eval.proofs.Frames.{frame_next, depth_some}
use Rattle.cat_eval.proofs.Stepping.{stmt_size, works_here}

pub frame_room : (p : Checked) (f : Frame) (fs : List Frame) → CursorFits p (f ∷ fs) → length fs < 32
frame_room p f fs fits = omega (arith, fits.0.depth, depth_some (frame_body p f))

module _ (p : Checked) (old : StateValue) (f : Frame) (s : Stmt) (at : AtFrame p old f) (item : slice_get (block_at p.blocks f.block) f.place ≡ Some s) where
  pub place_small : f.place < 60000
  place_small = omega (arith, at.cursor.0.size, ap body_size (frame_next p f.block f.place s item), stmt_size (tree_of p.blocks) f.block f.place (frame_body p (next_frame f)) s)

  pub works_at : TaskWorks (length p.words) (length p.tasks) (with_stmt (tree_of p.blocks) f.block f.place s (frame_body p (next_frame f)))
  works_at = works_here p (length old.frames) f.block f.place s item at.cursor.0

-- what is read stands among the words
pub reads_now : (p : Checked) (old : StateValue) (f : Frame) (e : Expr) → AtFrame p old f → Reads (length p.words) e → Reads (length old.words) e
reads_now p old f e at reads = subst (λ n. Reads n e) (sym at.words_are) reads

pub choice_reads : (p : Checked) (old : StateValue) (f : Frame) (test : Expr) (on : ℕ) (off : Option ℕ) → AtFrame p old f → slice_get (block_at p.blocks f.block) f.place ≡ Some (If test on off) → Reads (length old.words) test
choice_reads p old f test on None at item = reads_now p old f test at (works_at p old f (If test on None) at item).0.0.1
choice_reads p old f test on (Some off) at item = reads_now p old f test at (works_at p old f (If test on (Some off)) at item).0.0.1

pub loop_reads : (p : Checked) (old : StateValue) (f : Frame) (test : Expr) (body : ℕ) → AtFrame p old f → slice_get (block_at p.blocks f.block) f.place ≡ Some (While test body) → Reads (length old.words) test
loop_reads p old f test body at item = reads_now p old f test at (works_at p old f (While test body) at item).0.0.1

-- ---- frames that are put on, one after the other

abbrev put_on : Frame → StateValue → StateValue
put_on f s = record { words = s.words; posts = s.posts; running = s.running; frames = f ∷ s.frames }

pub put_one : (old new : StateValue) (f g : Frame) → new ≡ put_on f old → f ≡ g → new ≡ put_on g old
put_one old new f g e d = e ∙ ap (λ x. put_on x old) d

pub put_two : (old mid new : StateValue) (f g a b : Frame) → mid ≡ put_on f old → f ≡ g → new ≡ put_on a mid → a ≡ b → new ≡ put_on b (put_on g old)
put_two old mid new f g a b e d e' d' = e' ∙ ap (λ x. put_on x mid) d' ∙ ap (put_on b) (put_one old mid f g e d)

-- a task's beginning
abbrev with_posts : List ℕ → StateValue → StateValue
with_posts posts s = record { words = s.words; posts = posts; running = s.running; frames = s.frames }

abbrev set_running : StateValue → StateValue
set_running s = record { words = s.words; posts = s.posts; running = true; frames = s.frames }

pub begun : (old low run new : StateValue) (posts : List ℕ) (f g : Frame) → low ≡ with_posts posts old → run ≡ set_running low → f ≡ g → new ≡ put_on f run → new ≡ put_on g (set_running (with_posts posts old))
begun old low run new posts f g e d h k = put_one run new f g k h ∙ ap (put_on g) (d ∙ ap set_running e)
