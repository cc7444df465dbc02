-- What a run of instructions that has ended means for the tasks.
use Rattle.std.specs.Prelude.{◌≡◌, ℕ, ℤ, length, Some}
use Rattle.cat_program.specs.Meaning.{TaskState, TaskStep, task_step_of}
use Rattle.cat_program.specs.Checked.{Checked, IsChecked, HasVersion, program_marks, body_at}
use Rattle.cat_machine.specs.declared.instr.Mode.TheVariants.{Task, Handler}
use Rattle.cat_machine.specs.CodeValue.{EntryAt}
use Rattle.cat_machine.specs.Held.{Held}
use Rattle.cat_machine.specs.Machine.{Ended', entered, until}
use Rattle.cat_machine.specs.Code.{code_of}
use Rattle.cat_machine.specs.Fits.{HasShape, Corresponds, HandlerIs, stepped_of}

-- a section that has ended is one step of the tasks
pub record SectionEnds (p : Checked) (s : TaskState) (run : Ended') : Type 0 where
  pub step : TaskStep
  pub steps : task_step_of (body_at p) s ≡ Some step
  pub answer : stepped_of run.did ≡ step.answer
  pub corresponds : Corresponds (program_marks p) run.after step.after
  pub shape : HasShape (length p.words) (length p.tasks) run.after

-- a handler that has ended is the handling of its event
pub record HandlerEnds (p : Checked) (s : TaskState) (event version : ℕ) (payload : ℤ) (run : Ended') : Type 0 where
  pub there : HasVersion p event version
  pub is : HandlerIs p s event version payload run.after run.outs
  pub shape : HasShape (length p.words) (length p.tasks) run.after

pub record RunsAreSteps (p : Checked) : Type 0 where
  pub section : (h : Held) (s : TaskState) (run : Ended') → IsChecked p → Corresponds (program_marks p) h s → HasShape (length p.words) (length p.tasks) h
      → until 1000000 Task (code_of p) h ≡ Some run → SectionEnds p s run
  pub handler : (h : Held) (s : TaskState) (event version entry : ℕ) (payload : ℤ) (run : Ended') → IsChecked p → Corresponds (program_marks p) h s → HasShape (length p.words) (length p.tasks) h
      → EntryAt (code_of p) event version entry → until 1000000 Handler (code_of p) (entered h entry payload) ≡ Some run → HandlerEnds p s event version payload run
