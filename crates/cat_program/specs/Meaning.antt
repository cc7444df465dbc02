-- What statements do: one step of a task, and a whole version of an event.
use Rattle.std.specs.Prelude.{ℕ, zero, suc, ◌+◌, ◌-◌, ◌==◌, min, ℤ, pos, not, if◌then◌else◌, List, [], ◌∷◌, ◌++◌, Option, Some, None, slice_index, slice_set, position}
use Rattle.cat_program.specs.declared.syntax.Stepped.{Stepped}
use Rattle.cat_program.specs.declared.syntax.Stepped.TheVariants.{Quiet, Out}
use Rattle.cat_program.specs.Value.{value_of, index_of, is_nought}
use Rattle.cat_program.specs.Body.{Simple, SetWord, SetElement, Emit, Raise, Body, Empty, Plain, When, Choice, Loop, Turns, join}

-- the variables and the posts
pub record Store : Type 0 where
  pub words : List ℤ
  pub posts : List ℕ

-- a post count stays at 65535
abbrev pub raised : List ℕ → ℕ → List ℕ
raised posts t = slice_set posts t (min (slice_index posts t + 1) 65535)

abbrev pub lowered : List ℕ → ℕ → List ℕ
lowered posts t = slice_set posts t (slice_index posts t - 1)

-- the store after a simple statement
abbrev pub effect : Simple → ℤ → Store → Store
effect (SetWord word value) payload s = record { words = slice_set s.words word (value_of value s.words payload); posts = s.posts }
effect (SetElement base len index value) payload s =
    record { words = slice_set s.words (base + index_of (value_of index s.words payload) len) (value_of value s.words payload); posts = s.posts }
effect (Emit channel value) payload s = s
effect (Raise task) payload s = record { words = s.words; posts = raised s.posts task }

-- an output: the channel and the value
abbrev pub Output : Type 0
Output = ℕ × ℤ

abbrev pub output : Simple → ℤ → Store → List Output
output (Emit channel value) payload s = (channel, value_of value s.words payload) ∷ []
output _ payload s = []

-- ---- tasks

-- the variables, the posts, and the current list of statements or none
pub record TaskState : Type 0 where
  pub store : Store
  pub current : Option Body

pub record TaskStep : Type 0 where
  pub answer : Stepped
  pub after : TaskState

abbrev pub answer_of : List Output → Stepped
answer_of [] = Quiet
answer_of (o ∷ os) = Out o.0 o.1

abbrev pub quietly : Store → Option Body → TaskStep
quietly s k = record { answer = Quiet; after = record { store = s; current = k } }

-- a test decides between two lists
abbrev pub chosen : ℤ → Body → Body → Body
chosen v on off = if is_nought v then off else on

-- one step where a list is current
abbrev pub list_step : Body → Store → TaskStep
list_step Empty s = quietly s None
list_step (Plain b p simple rest) s =
    record { answer = answer_of (output simple (pos 0) s); after = record { store = effect simple (pos 0) s; current = Some rest } }
list_step (When b p test on rest) s = quietly s (Some (chosen (value_of test s.words (pos 0)) (join on rest) rest))
list_step (Choice b p test on off rest) s =
    quietly s (Some (chosen (value_of test s.words (pos 0)) (join on rest) (join off rest)))
list_step (Loop b p test body rest) s =
    quietly s (Some (chosen (value_of test s.words (pos 0)) (join body (Loop b p test body rest)) rest))
-- no task has a repeat
list_step (Turns b p n body rest) s = quietly s (Some rest)

-- the first declared task with posts
abbrev pub first_posted : List ℕ → Option ℕ
first_posted posts = position (λ n. not (n == 0)) posts

-- the task loses one post, and its body is the current list
abbrev pub taken : (ℕ → Body) → Store → Option ℕ → Option TaskStep
taken bodies s None = None
taken bodies s (Some t) = Some (quietly (record { words = s.words; posts = lowered s.posts t }) (Some (bodies t)))

abbrev pub step_from : (ℕ → Body) → Store → Option Body → Option TaskStep
step_from bodies s None = taken bodies s (first_posted s.posts)
step_from bodies s (Some k) = Some (list_step k s)

-- One step of the tasks, or none where none is left. The body of each task is given.
abbrev pub task_step_of : (ℕ → Body) → TaskState → Option TaskStep
task_step_of bodies state = step_from bodies state.store state.current

-- ---- events

-- the store after a version, and what it put out
pub record Handled : Type 0 where
  pub store : Store
  pub outs : List Output

abbrev pub and_then : Handled → (Store → Handled) → Handled
and_then h f = record { store = (f h.store).store; outs = h.outs ++ (f h.store).outs }

abbrev pub unchanged : Store → Handled
unchanged s = record { store = s; outs = [] }

-- n times, one after the other
abbrev pub times : ℕ → (Store → Handled) → Store → Handled
times zero f s = unchanged s
times (suc n) f s = and_then (f s) (times n f)

abbrev pub either : ℤ → Handled → Handled → Handled
either v on off = if is_nought v then off else on

-- a whole list of statements, with this payload
abbrev pub handled : Body → ℤ → Store → Handled
handled Empty x s = unchanged s
handled (Plain b p simple rest) x s = and_then (record { store = effect simple x s; outs = output simple x s }) (handled rest x)
handled (When b p test on rest) x s = and_then (either (value_of test s.words x) (handled on x s) (unchanged s)) (handled rest x)
handled (Choice b p test on off rest) x s =
    and_then (either (value_of test s.words x) (handled on x s) (handled off x s)) (handled rest x)
-- no event has a while
handled (Loop b p test body rest) x s = handled rest x s
handled (Turns b p n body rest) x s = and_then (times n (handled body x) s) (handled rest x)
