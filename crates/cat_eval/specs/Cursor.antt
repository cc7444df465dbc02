-- The list of statements that a cursor stands for.
use Rattle.std.specs.Prelude.{◌≡◌, ℕ, ◌+◌, ◌<◌, ◌≤◌, Bool, true, false, List, [], ◌∷◌, length, drop, Option, Some, None}
use Rattle.cat_program.specs.Body.{Body, Empty, join, with_stmts, tree_of, block_at}
use Rattle.cat_program.specs.Places.{body_size}
use Rattle.cat_program.specs.Meaning.{TaskState}
use Rattle.cat_program.specs.Checked.{Checked, IsChecked, TaskWorks, depth_of}
use Rattle.cat_eval.specs.declared.state.Frame.{Frame}
use Rattle.cat_eval.specs.StateValue.{StateValue}

-- the frame after a statement, and the frame at a block's beginning
abbrev pub next_frame : Frame → Frame
next_frame f = record { block = f.block; place = f.place + 1 }

abbrev pub first_frame : ℕ → Frame
first_frame b = record { block = b; place = 0 }

-- a cursor, and within it a block where one is chosen
abbrev pub opened : Option ℕ → List Frame → List Frame
opened None fs = fs
opened (Some b) fs = first_frame b ∷ fs

-- the statements of a block from a place on
abbrev pub frame_body : Checked → Frame → Body
frame_body p f = with_stmts (tree_of p.blocks) f.block f.place (drop f.place (block_at p.blocks f.block))

abbrev pub cursor_body : Checked → List Frame → Body
cursor_body p [] = Empty
cursor_body p (f ∷ fs) = join (frame_body p f) (cursor_body p fs)

abbrev pub current_of : Checked → Bool → List Frame → Option Body
current_of p true frames = Some (cursor_body p frames)
current_of p false frames = None

-- the state of the tasks
abbrev pub state_of : Checked → StateValue → TaskState
state_of p s = record { store = record { words = s.words; posts = s.posts }; current = current_of p s.running s.frames }

-- A frame with some frames below it: it is in a block, its statements are a task's, and no more than 32 frames are ever open.
pub record FrameFits (p : Checked) (below : ℕ) (f : Frame) : Type 0 where
  pub block : f.block < length p.blocks
  pub depth : below + depth_of (frame_body p f) ≤ 32
  pub size : f.place + body_size (frame_body p f) ≤ 60000
  pub works : TaskWorks (length p.words) (length p.tasks) (frame_body p f)

abbrev pub CursorFits : Checked → List Frame → Type 0
CursorFits p [] = Unit {0}
CursorFits p (f ∷ fs) = FrameFits p (length fs) f × CursorFits p fs

-- a state of this program's tasks
pub record Fits (p : Checked) (s : StateValue) : Type 0 where
  pub checked : IsChecked p
  pub words_are : length s.words ≡ length p.words
  pub posts_are : length s.posts ≡ length p.tasks
  pub cursor : CursorFits p s.frames
  pub idle : s.running ≡ false → s.frames ≡ []

-- a state at a statement, whose frame has been taken off
pub record AtFrame (p : Checked) (s : StateValue) (f : Frame) : Type 0 where
  pub checked : IsChecked p
  pub words_are : length s.words ≡ length p.words
  pub posts_are : length s.posts ≡ length p.tasks
  pub running : s.running ≡ true
  pub cursor : CursorFits p (f ∷ s.frames)
  pub within : f.place < length (block_at p.blocks f.block)

-- what is left of a cursor below a frame that has a statement
pub record Settled (p : Checked) (old new : StateValue) (f : Frame) : Type 0 where
  pub same : new ≡ record old { frames = new.frames }
  pub cursor : cursor_body p old.frames ≡ cursor_body p (f ∷ new.frames)
  pub fits : CursorFits p (f ∷ new.frames)
  pub within : f.place < length (block_at p.blocks f.block)
