-- The checked program.
use Rattle.std.specs.Prelude.{◌≡◌, ℕ, ◌+◌, ◌*◌, ◌<◌, ◌≤◌, max, ℤ, List, [], ◌∷◌, ◌++◌, length, map, Option, Some, None, slice_get, slice_index, unwrap_or, bytes_eq}
use Rattle.std.specs.List.{IsDistinct}
use Rattle.cat_program.specs.declared.syntax.Expr.{Expr, Number, Payload, Word, Element', Signed', Chain', Row_of-Further, end_of-Further, more_of-Further}
use Rattle.cat_program.specs.declared.headers.Variable.{Variable}
use Rattle.cat_program.specs.declared.headers.Event.{Event}
use Rattle.cat_program.specs.declared.syntax.Stmt.{Stmt}
use Rattle.cat_program.specs.declared.syntax.Stmt.TheVariants.{If, While, Repeat}
use Rattle.cat_program.specs.Declares.{IsLaidOut, EachEventIs, EachDegrades}
use Rattle.cat_program.specs.Body.{Simple, SetWord, SetElement, Emit, Raise, Body, Empty, Plain, When, Choice, Loop, Turns, tree_of}
use Rattle.cat_program.specs.Meaning.{TaskState}
use Rattle.cat_program.specs.Places.{expr_size, operands_size, Marks, tasks_marks, rest_in, tasks_size, events_size}

-- A program: its variables and their first words; each task's name, first posts and block; each event as it is declared and the
-- block of each of its versions; the events that the degrade order mentions; and all blocks.
pub record Checked : Type 0 where
  pub variables : List Variable
  pub words : List ℤ
  pub names : List (List ℕ)
  pub started : List ℕ
  pub tasks : List ℕ
  pub headers : List Event
  pub events : List (List ℕ)
  pub mentions : List ℕ
  pub blocks : List (List Stmt)

abbrev pub checked_of : List Variable → List ℤ → List (List ℕ) → List ℕ → List ℕ → List Event → List (List ℕ) → List ℕ → List (List Stmt) → Checked
checked_of variables words names started tasks headers events mentions blocks = record { variables = variables; words = words; names = names; started = started; tasks = tasks; headers = headers; events = events; mentions = mentions; blocks = blocks }

-- the names of all variables, tasks and events
abbrev pub all_names : Checked → List (List ℕ)
all_names p = map (λ (v : Variable). v.name) p.variables ++ p.names ++ map (λ (e : Event). e.name) p.headers

-- an event and a version of it
abbrev pub HasVersion : Checked → ℕ → ℕ → Type 0
HasVersion p event version = (event < length p.events) × (version < length (unwrap_or (slice_get p.events event) []))

abbrev pub body_at : Checked → ℕ → Body
body_at p t = tree_of p.blocks (slice_index p.tasks t)

abbrev pub bodies_of : Checked → List Body
bodies_of p = map (tree_of p.blocks) p.tasks

abbrev pub versions_of : Checked → List (List Body)
versions_of p = map (λ event. map (tree_of p.blocks) event) p.events

abbrev pub version_at : Checked → ℕ → ℕ → Body
version_at p event version = tree_of p.blocks (slice_index (unwrap_or (slice_get p.events event) []) version)

-- the list of statements that a place in task code stands for
abbrev pub program_marks : Checked → Marks
program_marks p = tasks_marks (bodies_of p)

abbrev pub rest_at : Checked → ℕ → Option Body
rest_at p pc = rest_in (program_marks p) pc

-- the first state of the tasks: the declared values, a post for each start, and no current list
abbrev pub first_state : Checked → TaskState
first_state p = record { store = record { words = p.words; posts = p.started }; current = None }

-- ---- conditions

-- the blocks that a statement names have lower numbers
abbrev pub NamesLower : ℕ → Stmt → Type 0
NamesLower b (If test on None) = on < b
NamesLower b (If test on (Some off)) = (on < b) × (off < b)
NamesLower b (While test body) = body < b
NamesLower b (Repeat count body) = body < b
NamesLower b _ = Unit {0}

abbrev pub AllLower : ℕ → List Stmt → Type 0
AllLower b [] = Unit {0}
AllLower b (s ∷ ss) = NamesLower b s × AllLower b ss

abbrev mutual
  -- how many operands an expression needs at once
  pub expr_need : Expr → ℕ
  expr_need (Number n) = 1
  expr_need Payload = 1
  expr_need (Word w) = 1
  expr_need (Element' base len p index) = expr_need index
  expr_need (Signed' sign p operand) = expr_need operand
  expr_need (Chain' p first s rest) = max (expr_need first) (chain_need rest)

  pub chain_need : {m : _} → Row_of-Further m → ℕ
  chain_need end_of-Further = 0
  chain_need (more_of-Further operator operand rest) = max (1 + expr_need operand) (chain_need rest)

abbrev mutual
  -- the words that an expression names are among these
  pub Reads : ℕ → Expr → Type 0
  Reads words (Number n) = Unit {0}
  Reads words Payload = Unit {0}
  Reads words (Word w) = w < words
  Reads words (Element' base len p index) = (0 < len) × (base + len ≤ words) × Reads words index
  Reads words (Signed' sign p operand) = Reads words operand
  Reads words (Chain' p first s rest) = Reads words first × ChainReads words rest

  pub ChainReads : {m : _} → ℕ → Row_of-Further m → Type 0
  ChainReads words end_of-Further = Unit {0}
  ChainReads words (more_of-Further operator operand rest) = Reads words operand × ChainReads words rest

-- an expression that may be worked out where d operands are held
abbrev pub Works : ℕ → ℕ → Expr → Type 0
Works words d e = (d + expr_need e ≤ 32) × Reads words e

abbrev pub SimpleWorks : ℕ → ℕ → ℕ → Simple → Type 0
SimpleWorks words posts d (SetWord word value) = (word < words) × Works words d value
SimpleWorks words posts d (SetElement base len index value) =
    (0 < len) × (base + len ≤ words) × Works words d index × Works words (d + 1) value
SimpleWorks words posts d (Emit channel value) = Works words d value
SimpleWorks words posts d (Raise task) = task < posts

abbrev mutual
  -- no payload is read
  pub IsFree : Expr → Type 0
  IsFree (Number n) = Unit {0}
  IsFree Payload = ⊥
  IsFree (Word w) = Unit {0}
  IsFree (Element' base len p index) = IsFree index
  IsFree (Signed' sign p operand) = IsFree operand
  IsFree (Chain' p first s rest) = IsFree first × ChainIsFree rest

  pub ChainIsFree : {m : _} → Row_of-Further m → Type 0
  ChainIsFree end_of-Further = Unit {0}
  ChainIsFree (more_of-Further operator operand rest) = IsFree operand × ChainIsFree rest

abbrev pub SimpleIsFree : Simple → Type 0
SimpleIsFree (SetWord word value) = IsFree value
SimpleIsFree (SetElement base len index value) = IsFree index × IsFree value
SimpleIsFree (Emit channel value) = IsFree value
SimpleIsFree (Raise task) = Unit {0}

-- a test of a task
abbrev pub TestWorks : ℕ → Expr → Type 0
TestWorks words e = Works words 0 e × IsFree e

-- a task's statements: no repeat, no payload
abbrev pub TaskWorks : ℕ → ℕ → Body → Type 0
TaskWorks words posts Empty = Unit {0}
TaskWorks words posts (Plain b p simple rest) = SimpleWorks words posts 0 simple × SimpleIsFree simple × TaskWorks words posts rest
TaskWorks words posts (When b p test on rest) = TestWorks words test × TaskWorks words posts on × TaskWorks words posts rest
TaskWorks words posts (Choice b p test on off rest) =
    TestWorks words test × TaskWorks words posts on × TaskWorks words posts off × TaskWorks words posts rest
TaskWorks words posts (Loop b p test body rest) = TestWorks words test × TaskWorks words posts body × TaskWorks words posts rest
TaskWorks words posts (Turns b p n body rest) = ⊥

-- an event's statements: no while, and each repeat holds one operand more
abbrev pub EventWorks : ℕ → ℕ → ℕ → Body → Type 0
EventWorks words posts d Empty = Unit {0}
EventWorks words posts d (Plain b p simple rest) = SimpleWorks words posts d simple × EventWorks words posts d rest
EventWorks words posts d (When b p test on rest) = Works words d test × EventWorks words posts d on × EventWorks words posts d rest
EventWorks words posts d (Choice b p test on off rest) =
    Works words d test × EventWorks words posts d on × EventWorks words posts d off × EventWorks words posts d rest
EventWorks words posts d (Loop b p test body rest) = ⊥
EventWorks words posts d (Turns b p n body rest) = (n ≤ 1000) × (d + 1 ≤ 32) × EventWorks words posts (d + 1) body × EventWorks words posts d rest

-- the greatest count of outputs of a list in an event
abbrev pub simple_outs : Simple → ℕ
simple_outs (Emit channel value) = 1
simple_outs _ = 0

abbrev pub most_outs : Body → ℕ
most_outs Empty = 0
most_outs (Plain b p simple rest) = simple_outs simple + most_outs rest
most_outs (When b p test on rest) = most_outs on + most_outs rest
most_outs (Choice b p test on off rest) = max (most_outs on) (most_outs off) + most_outs rest
most_outs (Loop b p test body rest) = most_outs rest
most_outs (Turns b p n body rest) = n * most_outs body + most_outs rest

-- the greatest count of instructions of a list in an event
abbrev pub most_steps : Body → ℕ
most_steps Empty = 0
most_steps (Plain b p simple rest) = operands_size simple + 1 + most_steps rest
most_steps (When b p test on rest) = expr_size test + 1 + most_steps on + most_steps rest
most_steps (Choice b p test on off rest) = expr_size test + 1 + max (most_steps on + 1) (most_steps off) + most_steps rest
most_steps (Loop b p test body rest) = most_steps rest
most_steps (Turns b p n body rest) = 1 + (n * (1 + most_steps body + 1) + 1) + most_steps rest

-- how deep a list nests
abbrev pub depth_of : Body → ℕ
depth_of Empty = 1
depth_of (Plain b p s rest) = depth_of rest
depth_of (When b p e on rest) = max (1 + depth_of on) (depth_of rest)
depth_of (Choice b p e on off rest) = max (1 + depth_of on) (max (1 + depth_of off) (depth_of rest))
depth_of (Loop b p e body rest) = max (1 + depth_of body) (depth_of rest)
depth_of (Turns b p n body rest) = max (1 + depth_of body) (depth_of rest)

-- no list nests deeper than 32
abbrev pub EachShallow : List Body → Type 0
EachShallow [] = Unit {0}
EachShallow (body ∷ bodies) = (depth_of body ≤ 32) × EachShallow bodies

abbrev pub EachEventShallow : List (List Body) → Type 0
EachEventShallow [] = Unit {0}
EachEventShallow (event ∷ events) = EachShallow event × EachEventShallow events

-- each body of a list
abbrev pub EachTaskWorks : ℕ → ℕ → List Body → Type 0
EachTaskWorks words posts [] = Unit {0}
EachTaskWorks words posts (body ∷ bodies) = TaskWorks words posts body × EachTaskWorks words posts bodies

-- a version, with its end
pub record VersionWorks (words posts : ℕ) (body : Body) : Type 0 where
  pub works : EventWorks words posts 0 body
  pub short : most_steps body + 1 ≤ 1000000

abbrev pub EachVersionWorks : ℕ → ℕ → List Body → Type 0
EachVersionWorks words posts [] = Unit {0}
EachVersionWorks words posts (body ∷ bodies) = VersionWorks words posts body × EachVersionWorks words posts bodies

abbrev pub EachEventWorks : ℕ → ℕ → List (List Body) → Type 0
EachEventWorks words posts [] = Unit {0}
EachEventWorks words posts (event ∷ events) = EachVersionWorks words posts event × EachEventWorks words posts events

-- every block names lower blocks
abbrev pub EachLower : ℕ → List (List Stmt) → Type 0
EachLower b [] = Unit {0}
EachLower b (block ∷ blocks) = AllLower b block × EachLower (b + 1) blocks

-- each number of a list names a block
abbrev pub EachBelow : ℕ → List ℕ → Type 0
EachBelow n [] = Unit {0}
EachBelow n (b ∷ bs) = (b < n) × EachBelow n bs

abbrev pub EachListBelow : ℕ → List (List ℕ) → Type 0
EachListBelow n [] = Unit {0}
EachListBelow n (bs ∷ lists) = EachBelow n bs × EachListBelow n lists

pub record IsChecked (p : Checked) : Type 0 where
  pub laid_out : IsLaidOut 0 p.variables (length p.words)
  pub few_words : length p.words ≤ 1024
  pub named : length p.names ≡ length p.tasks
  pub names_differ : IsDistinct bytes_eq (all_names p)
  pub declares : EachEventIs p.headers p.events
  pub mentions_in : EachBelow (length p.events) p.mentions
  pub degrades : EachDegrades p.mentions 0 p.events
  pub tasks_in : EachBelow (length p.blocks) p.tasks
  pub events_in : EachListBelow (length p.blocks) p.events
  pub few_tasks : length p.tasks ≤ 16
  pub few_events : length p.events ≤ 16
  pub lower : EachLower 0 p.blocks
  pub tasks_shallow : EachShallow (bodies_of p)
  pub events_shallow : EachEventShallow (versions_of p)
  pub tasks_work : EachTaskWorks (length p.words) (length p.tasks) (bodies_of p)
  pub events_work : EachEventWorks (length p.words) (length p.tasks) (versions_of p)
  pub started : length p.started ≡ length p.tasks
  pub short : tasks_size (bodies_of p) + events_size (versions_of p) ≤ 60000
