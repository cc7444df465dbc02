-- `runobject OBJ STEPS`: what the first sections of an object's tasks put out, or all that exist.
use Rattle.std.specs.Prelude.{ℕ, zero, suc, List, [], ◌∷◌, Option, Some, None, Result, Ok, Err}
use Rattle.cat_machine.specs.CodeValue.{CodeValue}
use Rattle.cat_machine.specs.Fits.{stepped_of}
use Rattle.cat_machine.specs.Held.{Held}
use Rattle.cat_machine.specs.Machine.{Ended', next_of, until}
use Rattle.cat_machine.specs.declared.instr.Mode.TheVariants.{Task}
use Rattle.cat_program.specs.declared.syntax.Stepped.{Stepped}
use Rattle.cn_object.specs.Running.{first_of}
use Rattle.cn_object.specs.Verdict.{IsBad, IsGood}
use Rattle.cn_object.specs.declared.object.Object.{Object}
use Rattle.catnap_top.specs.declared.fault.Fault.TheVariants as fault
use Rattle.catnap_top.specs.declared.file_fault.BadObject.{BadObject}
use Rattle.catnap_top.specs.declared.status.Status.TheVariants.{Done}
use Rattle.catnap_top.specs.Answer.{Answer}
use Rattle.catnap_top.specs.Look.{Look, ◌>>=◌, found, By}
use Rattle.catnap_top.specs.Run.{run_text}

-- ---- an object

-- bytes are the file of an object whose code can be run, or the lowest rule that fails, and where
abbrev pub IsObject : List ℕ → Result Object BadObject → Type 0
IsObject bytes (Ok object) = IsGood bytes object
IsObject bytes (Err bad) = IsBad bytes bad.kind bad.place

abbrev pub object_in : List ℕ → Look Object
object_in bytes = By fault.Object (IsObject bytes)

-- ---- its sections

-- the section that begins at the next place, where there is one
abbrev pub section_at : CodeValue → Held → Option ℕ → Option Ended'
section_at code h None = None
section_at code h (Some pc) = until 1000000 Task code h

-- a section's answer, and what comes after the section
abbrev pub section_then : Option Ended' → (Held → List Stepped) → List Stepped
section_then None rest = []
section_then (Some section) rest = stepped_of section.did ∷ rest section.after

-- the answers of the first sections from a state, or of all that exist
unfoldable pub section_answers : CodeValue → ℕ → Held → List Stepped
section_answers code zero h = []
section_answers code (suc count) h = section_then (section_at code h (next_of code h)) (section_answers code count)

-- the run of so many sections of an object
abbrev pub object_ran : ℕ → Object → Answer
object_ran steps object = record { status = Done; text = run_text (section_answers object.code steps (first_of object)) }

-- `runobject` with so many sections over an object file
abbrev pub running_object : ℕ → List ℕ → Look Answer
running_object steps bytes = do
  object ← object_in bytes
  found (object_ran steps object)
