-- What the interpreter's calls do to a state.
use Rattle.std.specs.Prelude.{◌≡◌, ℕ, ◌+◌, ◌≤◌, ℤ, pos, List, ◌∷◌, length, ◌++◌, map, if◌then◌else◌, Option, Some, MatchOption}
use Rattle.cat_program.specs.declared.syntax.Expr.{Expr}
use Rattle.cat_program.specs.declared.syntax.Stepped.{Stepped}
use Rattle.cat_program.specs.declared.syntax.Stepped.TheVariants.{None as NoStep}
use Rattle.cat_program.specs.Value.{value_of, is_nought}
use Rattle.cat_program.specs.Body.{Simple, Body}
use Rattle.cat_program.specs.Meaning.{Store, effect, TaskStep, list_step, task_step_of, Handled, handled}
use Rattle.cat_program.specs.Checked.{Checked, IsChecked, EventWorks, body_at, most_outs}
use Rattle.cat_program.specs.OutsValue.{OutsValue, entry_of}
use Rattle.cat_eval.specs.StateValue.{StateValue}
use Rattle.cat_eval.specs.declared.state.Frame.{Frame}
use Rattle.cat_eval.specs.Cursor.{cursor_body, state_of, Fits}

abbrev pub store_of : StateValue → Store
store_of s = record { words = s.words; posts = s.posts }

-- the state with another store, at the same place
abbrev pub with_store : StateValue → Store → StateValue
with_store s store = record { words = store.words; posts = store.posts; running = s.running; frames = s.frames }

-- the state after a simple statement
abbrev pub acted : Simple → ℤ → StateValue → StateValue
acted simple payload s = with_store s (effect simple payload (store_of s))

-- this answer and this state are a step's
pub record StepIs (p : Checked) (step : TaskStep) (answer : Stepped) (new : StateValue) : Type 0 where
  pub answers : answer ≡ step.answer
  pub after : state_of p new ≡ step.after
  pub fits : Fits p new

-- what a step does at a statement
abbrev pub StepsAt : Checked → StateValue → Frame → Stepped → StateValue → Type 0
StepsAt p old f answer new = StepIs p (list_step (cursor_body p (f ∷ old.frames)) (store_of old)) answer new

-- the block that a test chooses, if there is one
abbrev pub chosen_block : Expr → List ℤ → ℕ → Option ℕ → Option ℕ
chosen_block test words on off = if is_nought (value_of test words (pos 0)) then off else Some on

-- the answer is none exactly where no step exists, and nothing changes then
abbrev pub StepsAs : Checked → StateValue → Stepped → StateValue → Type 0
StepsAs p old answer new =
    MatchOption (task_step_of (body_at p) (state_of p old)) ((answer ≡ NoStep) × (new ≡ old)) (λ step. StepIs p step answer new)

-- the store and the outputs of a part of a handler: the outputs have joined the list, and the place of the tasks stays
pub record Gives (h : Handled) (old : StateValue) (before : OutsValue) (new : StateValue) (now : OutsValue) : Type 0 where
  pub state : new ≡ with_store old h.store
  pub entries : now.entries ≡ before.entries ++ map entry_of h.outs
  pub spare : now.spare + length h.outs ≡ before.spare

-- what a list of statements of an event does
abbrev pub Handles : Body → ℤ → StateValue → OutsValue → StateValue → OutsValue → Type 0
Handles body payload old before new now = Gives (handled body payload (store_of old)) old before new now

-- a list of statements of an event that may run, where d operands would be held
pub record Ready (p : Checked) (body : Body) (s : StateValue) (o : OutsValue) : Type 0 where
  pub checked : IsChecked p
  pub words_are : length s.words ≡ length p.words
  pub posts_are : length s.posts ≡ length p.tasks
  pub held : ℕ
  pub works : EventWorks (length p.words) (length p.tasks) held body
  pub room : most_outs body ≤ o.spare
