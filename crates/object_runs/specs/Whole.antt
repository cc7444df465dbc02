-- Runs of sections and handlers, and how each of them ends.
use Rattle.std.specs.Prelude.{◌≡◌, ℕ, ℤ, List, [], Some}
use Rattle.cat_program.specs.Meaning.{Output}
use Rattle.cat_machine.specs.declared.instr.Did.TheVariants.{Ended}
use Rattle.cat_machine.specs.declared.instr.Mode.{Mode}
use Rattle.cat_machine.specs.declared.instr.Mode.TheVariants.{Task, Handler}
use Rattle.cat_machine.specs.CodeValue.{CodeValue, EntryAt}
use Rattle.cat_machine.specs.Held.{Held}
use Rattle.cat_machine.specs.Machine.{Ended', Stepping, entered, goes_on, next_of, step_of, until}
use Rattle.cost_bounds.specs.Paths.{HandlerFrom}
use Rattle.cn_object.specs.declared.object.Object.{Object}
use Rattle.cn_object.specs.Running.{first_of}
use Rattle.object_runs.specs.Resting.{IsResting}
use Rattle.object_runs.specs.Running.{IsSection}

-- ---- one section and one handler

-- a section ends with an instruction that acts, and the machine rests again
pub record SectionEnds (words tasks : ℕ) (code : CodeValue) (h : Held) (pc : ℕ) : Type 0 where
  pub run : Ended'
  pub is : IsSection code h pc run
  pub rests : IsResting words tasks code run.after

-- a handler ends with its end, and the machine rests again, at the place that was kept aside
pub record HandlerEnds (words tasks : ℕ) (code : CodeValue) (h : Held) (entry : ℕ) (payload : ℤ) : Type 0 where
  pub run : Ended'
  pub ends : until 1000000 Handler code (entered h entry payload) ≡ Some run
  pub path : HandlerFrom code entry [] run.path
  pub did : run.did ≡ Ended
  pub rests : IsResting words tasks code run.after
  pub back : run.after.place ≡ h.place

-- from a state between two sections
pub record RunsWell (words tasks : ℕ) (code : CodeValue) (h : Held) : Type 0 where
  pub section : (pc : ℕ) → next_of code h ≡ Some pc → SectionEnds words tasks code h pc
  pub handler : (event version entry : ℕ) (payload : ℤ) → EntryAt code event version entry → HandlerEnds words tasks code h entry payload

-- ---- a list of them

-- after some sections and handlers from the first working state of an object
pub data IsReached (o : Object) : Held → Type 0 where
  First : IsReached o (first_of o)
  BySection : {h : Held} → (run : Ended') → IsReached o h → until 1000000 Task o.code h ≡ Some run → IsReached o run.after
  ByHandler : {h : Held} → (event version entry : ℕ) (payload : ℤ) (run : Ended') → IsReached o h → EntryAt o.code event version entry → until 1000000 Handler o.code (entered h entry payload) ≡ Some run → IsReached o run.after

-- where a section or a handler begins
pub data IsStart (code : CodeValue) (h : Held) : Mode → Held → Type 0 where
  AtSection : (pc : ℕ) → next_of code h ≡ Some pc → IsStart code h Task h
  AtHandler : (event version entry : ℕ) (payload : ℤ) → EntryAt code event version entry → IsStart code h Handler (entered h entry payload)

-- some instructions on, each of which went on
pub data Follows (mode : Mode) (code : CodeValue) : Held → Held → Type 0 where
  Same : {h : Held} → Follows mode code h h
  Further : {h now : Held} → (s : Stepping) (outs : List Output) → step_of mode code h ≡ Some s → goes_on mode s.did ≡ Some outs → Follows mode code s.after now → Follows mode code h now
