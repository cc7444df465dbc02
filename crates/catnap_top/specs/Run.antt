-- `run SRC STEPS`: what the first steps of the tasks put out, or all that exist.
use Rattle.std.specs.Prelude.{ℕ, zero, suc, ℤ, List, [], ◌∷◌, ◌++◌, length, Option, Some, None, codes, decimal}
use Rattle.std.specs.Fmt.{signed_decimal}
use Rattle.cat_program.specs.declared.syntax.Stepped.{Stepped}
use Rattle.cat_program.specs.declared.syntax.Stepped.TheVariants.{Out}
use Rattle.cat_program.specs.Body.{Body}
use Rattle.cat_program.specs.Meaning.{TaskState, TaskStep, task_step_of}
use Rattle.cat_program.specs.Checked.{Checked, body_at, first_state}
use Rattle.catnap_top.specs.declared.status.Status.TheVariants.{Done}
use Rattle.catnap_top.specs.Answer.{Answer, line}
use Rattle.catnap_top.specs.Look.{Look, ◌>>=◌, found}
use Rattle.catnap_top.specs.Files.{program_in}

-- a step's answer, and what comes after the step
abbrev pub follow : Option TaskStep → (TaskState → List Stepped) → List Stepped
follow None rest = []
follow (Some step) rest = step.answer ∷ rest step.after

-- the answers of the first steps from a state, or of all that exist
unfoldable pub answers : (ℕ → Body) → ℕ → TaskState → List Stepped
answers bodies zero state = []
answers bodies (suc count) state = follow (task_step_of bodies state) (answers bodies count)

-- the line of an output
abbrev pub out_text : ℕ → ℤ → List ℕ
out_text channel value = line (codes "out " ∷ decimal channel ∷ codes " " ∷ signed_decimal value ∷ codes "\n" ∷ [])

abbrev pub out_line : Stepped → List ℕ
out_line (Out channel value) = out_text channel value
out_line _ = []

abbrev pub out_lines : List Stepped → List ℕ
out_lines [] = []
out_lines (answer ∷ answers) = out_line answer ++ out_lines answers

abbrev pub steps_line : ℕ → List ℕ
steps_line count = line (codes "steps " ∷ decimal count ∷ codes "\n" ∷ [])

-- the `out` lines of the steps that were taken, and then how many these are
abbrev pub run_text : List Stepped → List ℕ
run_text taken = out_lines taken ++ steps_line (length taken)

-- the run of so many steps of a program
abbrev pub ran : ℕ → Checked → Answer
ran steps p = record { status = Done; text = run_text (answers (body_at p) steps (first_state p)) }

-- `run` with so many steps over a source
abbrev pub running : ℕ → List ℕ → Look Answer
running steps source = do
  p ← program_in source
  found (ran steps p)
