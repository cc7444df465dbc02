-- The list of statements that a place stands for, as frames: from the innermost on, where each block that is open goes on.
use Rattle.std.specs.Prelude.{◌≡◌, ◌<◌, ◌≤◌, ℕ, ◌+◌, Bool, true, false, List, [], ◌∷◌, ◌++◌, length, Option, None, Some, slice_get, MatchOption}
use Rattle.cat_program.specs.declared.syntax.Stmt.{Stmt}
use Rattle.cat_program.specs.Body.{Body, Empty, block_at, tree_of, with_stmt}
use Rattle.cat_program.specs.Places.{Marks, body_size, marks_of}
use Rattle.cat_program.specs.Checked.{Checked, EachLower, NamesLower, depth_of}
use Rattle.cat_eval.specs.declared.state.Frame.{Frame}
use Rattle.cat_eval.specs.Cursor.{cursor_body, frame_body}

-- the frame is at a statement of a block of the program
pub record IsAtStatement (p : Checked) (f : Frame) : Type 0 where
  pub block : f.block < length p.blocks
  pub place : f.place < length (block_at p.blocks f.block)

abbrev pub AreAtStatements : Checked → List Frame → Type 0
AreAtStatements p [] = Unit {0}
AreAtStatements p (f ∷ fs) = IsAtStatement p f × AreAtStatements p fs

-- the frames are what is left
pub record IsLeft (p : Checked) (left : Option Body) (frames : List Frame) : Type 0 where
  pub body : left ≡ Some (cursor_body p frames)
  pub at : AreAtStatements p frames

-- frames are found exactly where something is left
abbrev pub AreFound : Checked → Option Body → Option (List Frame) → Type 0
AreFound p left found = MatchOption found (left ≡ None) (IsLeft p left)

-- a place of some marks stands for what is left, or for nothing
pub record Stands (p : Checked) (marks : Marks) (at : ℕ) (found : Bool) (frames : List Frame) : Type 0 where
  pub some : found ≡ true → slice_get marks at ≡ Some (Some (cursor_body p frames))
  pub at_statements : found ≡ true → AreAtStatements p frames
  pub none : found ≡ false → slice_get marks at ≡ Some None

-- a block that is not too long and not too deep, behind which these frames are left
pub record IsBefore (p : Checked) (b : ℕ) (frames : List Frame) : Type 0 where
  pub block : b < length p.blocks
  pub short : body_size (tree_of p.blocks b) ≤ 60000
  pub room : length frames + depth_of (tree_of p.blocks b) ≤ 32
  pub behind : AreAtStatements p frames

-- a place in its code
pub record IsIn (p : Checked) (b at : ℕ) (frames : List Frame) : Type 0 where
  pub lower : EachLower 0 p.blocks
  pub before : IsBefore p b frames
  pub within : at < body_size (tree_of p.blocks b)

-- a place in the code of a statement, from which a block goes on
pub record IsStmtIn (p : Checked) (f : Frame) (s : Stmt) (at : ℕ) (frames : List Frame) : Type 0 where
  pub lower : EachLower 0 p.blocks
  pub names : NamesLower f.block s
  pub block : f.block < length p.blocks
  pub here : slice_get (block_at p.blocks f.block) f.place ≡ Some s
  pub few : f.place < 60000
  pub short : body_size (frame_body p f) ≤ 60000
  pub room : length frames + depth_of (frame_body p f) ≤ 32
  pub behind : AreAtStatements p frames
  pub within : at < body_size (with_stmt (tree_of p.blocks) 0 0 s Empty)

-- two blocks with a jump between them, behind both of which k follows
abbrev pub choice_marks : Checked → ℕ → ℕ → Body → Marks
choice_marks p on off k = marks_of (tree_of p.blocks on) k ++ (Some k ∷ marks_of (tree_of p.blocks off) k)

-- a place in their code
pub record IsChoiceIn (p : Checked) (on off at : ℕ) (frames : List Frame) : Type 0 where
  pub lower : EachLower 0 p.blocks
  pub first : IsBefore p on frames
  pub second : IsBefore p off frames
  pub within : at < body_size (tree_of p.blocks on) + 1 + body_size (tree_of p.blocks off)
