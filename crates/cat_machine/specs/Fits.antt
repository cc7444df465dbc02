-- Working states that belong to states of the tasks.
use Rattle.std.specs.Prelude.{◌≡◌, ℕ, ◌<◌, ℤ, List, [], length, Option, Some, None, MatchOption, ◌+◌, ◌++◌, map}
use Rattle.cat_program.specs.declared.syntax.Stepped.{Stepped}
use Rattle.cat_program.specs.declared.syntax.Stepped.TheVariants.{None as NoStep, Quiet, Out}
use Rattle.cat_program.specs.OutsValue.{OutsValue, entry_of}
use Rattle.cat_program.specs.Places.{Marks}
use Rattle.cat_program.specs.Resting.{StandsFor}
use Rattle.cat_program.specs.Meaning.{TaskState, Output, task_step_of, handled}
use Rattle.cat_machine.specs.declared.instr.Did.{Did}
use Rattle.cat_machine.specs.declared.instr.Did.TheVariants.{Went, Acted, Ended, Emitted}
use Rattle.cat_program.specs.Checked.{Checked, IsChecked, program_marks, body_at, version_at}
use Rattle.cat_machine.specs.declared.instr.Mode.{Mode}
use Rattle.cat_machine.specs.declared.instr.Mode.TheVariants.{Task, Handler}
use Rattle.cat_machine.specs.CodeValue.{CodeValue}
use Rattle.cat_machine.specs.Code.{code_of}
use Rattle.cat_machine.specs.Machine.{Ended', until, next_of}
use Rattle.cat_machine.specs.Held.{Held}

-- a state whose lists have these lengths
pub record HasShape (words posts : ℕ) (h : Held) : Type 0 where
  pub words_are : length h.words ≡ words
  pub posts_are : length h.posts ≡ posts

-- a working state between two sections, with no handler that runs, corresponds to a state of the tasks
pub record Corresponds (marks : Marks) (h : Held) (s : TaskState) : Type 0 where
  pub words : h.words ≡ s.store.words
  pub posts : h.posts ≡ s.store.posts
  pub place : StandsFor marks h.place s.current
  pub free : h.kept ≡ None
  pub empty : h.stack ≡ []

abbrev pub stepped_of : Did → Stepped
stepped_of Acted = Quiet
stepped_of (Emitted c v) = Out c v
stepped_of Went = Quiet
stepped_of Ended = Quiet

-- between two sections, with no handler that runs
pub record IsIdle (p : Checked) (h : Held) : Type 0 where
  pub state : TaskState
  pub corresponds : Corresponds (program_marks p) h state

-- the section or the handler ends, and then the state is idle
pub record RunsOn (p : Checked) (mode : Mode) (h : Held) : Type 0 where
  pub run : Ended'
  pub ends : until 1000000 mode (code_of p) h ≡ Some run
  pub rests : IsIdle p run.after

-- idle, within a section, or in a handler
pub data Stands (p : Checked) (h : Held) : Type 0 where
  Idle : IsIdle p h → Stands p h
  Within : h.kept ≡ None → 0 < length h.stack → RunsOn p Task h → Stands p h
  Handling : (kept : Option ℕ) → h.kept ≡ Some kept → RunsOn p Handler h → Stands p h

-- a working state of a checked program's code
pub record Fits (p : Checked) (code : CodeValue) (h : Held) : Type 0 where
  pub checked : IsChecked p
  pub code_is : code ≡ code_of p
  pub shape : HasShape (length p.words) (length p.tasks) h
  pub stands : Stands p h

-- what a step needs beside that
abbrev pub ReadyFor : Mode → CodeValue → Held → Type 0
ReadyFor Task code h = (h.kept ≡ None) × ((pc : ℕ) × (next_of code h ≡ Some pc))
ReadyFor Handler code h = (kept : Option ℕ) × (h.kept ≡ Some kept)

-- at a place
abbrev pub HasPlace : Held → Type 0
HasPlace h = (pc : ℕ) × (h.place ≡ Some pc)

-- What the answer to one instruction says of the state after it: a section goes on with no handler, or has ended; a
-- handler goes on and keeps the task's place, or has ended at that place.
abbrev pub AnswerMeans : Mode → Checked → Held → Did → Held → Type 0
AnswerMeans Task p old Went new = (new.kept ≡ None) × HasPlace new
AnswerMeans Task p old Acted new = IsIdle p new
AnswerMeans Task p old (Emitted channel value) new = IsIdle p new
AnswerMeans Task p old Ended new = ⊥
AnswerMeans Handler p old Went new = (new.kept ≡ old.kept) × HasPlace new
AnswerMeans Handler p old (Emitted channel value) new = (new.kept ≡ old.kept) × HasPlace new
AnswerMeans Handler p old Ended new = IsIdle p new × (old.kept ≡ Some new.place)
AnswerMeans Handler p old Acted new = ⊥

-- a state at which a section begins, with this place
pub record IsBefore (from : Option ℕ) (h : Held) : Type 0 where
  pub place : h.place ≡ from
  pub free : h.kept ≡ None
  pub empty : h.stack ≡ []

-- a section answers as one step of the tasks, and the states correspond again
abbrev pub SectionIs : Checked → TaskState → Held → Stepped → Held → Type 0
SectionIs p s old answer new =
    MatchOption (task_step_of (body_at p) s) ((answer ≡ NoStep) × (new ≡ old)) (λ r. (answer ≡ r.answer) × Corresponds (program_marks p) new r.after)

-- a handler gives the store and the outputs of its list, and the current list stays
pub record HandlerIs (p : Checked) (s : TaskState) (event version : ℕ) (payload : ℤ) (new : Held) (outs : List Output) : Type 0 where
  pub outputs : outs ≡ (handled (version_at p event version) payload s.store).outs
  pub state : Corresponds (program_marks p) new (record { store = (handled (version_at p event version) payload s.store).store; current = s.current })

-- a whole handler: what it put out has joined the list
pub record HandlerStopped (code : CodeValue) (old : Held) (before : OutsValue) (new : Held) (now : OutsValue) : Type 0 where
  pub run : Ended'
  pub from : until 1000000 Handler code old ≡ Some run
  pub after : run.after ≡ new
  pub entries : now.entries ≡ before.entries ++ map entry_of run.outs
  pub spare : now.spare + length run.outs ≡ before.spare

-- a whole handler, with the list that it has put out to
pub record HandlerGives (p : Checked) (s : TaskState) (event version : ℕ) (payload : ℤ) (new : Held) (before now : OutsValue) : Type 0 where
  pub outs : List Output
  pub is : HandlerIs p s event version payload new outs
  pub entries : now.entries ≡ before.entries ++ map entry_of outs
  pub spare : now.spare + length outs ≡ before.spare
