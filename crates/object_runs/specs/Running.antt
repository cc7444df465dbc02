-- Sections, and what the first ones of a run answer.
use Rattle.std.specs.Prelude.{◌≡◌, ℕ, suc, List, [], ◌∷◌, Some, None, MatchOption}
use Rattle.cat_program.specs.declared.syntax.Stepped.{Stepped}
use Rattle.cat_program.specs.declared.syntax.Stepped.TheVariants.{None as NoStep}
use Rattle.cat_machine.specs.declared.instr.Mode.TheVariants.{Task}
use Rattle.cat_machine.specs.CodeValue.{CodeValue}
use Rattle.cat_machine.specs.Held.{Held}
use Rattle.cat_machine.specs.Machine.{Ended', next_of, until}
use Rattle.cat_machine.specs.Fits.{stepped_of}
use Rattle.cost_bounds.specs.Paths.{SectionFrom}
use Rattle.cn_object.specs.declared.object.Object.{Object}
use Rattle.cn_object.specs.Running.{first_of}

-- the section that begins at the next place: up to and including the first instruction that acts
pub record IsSection (code : CodeValue) (h : Held) (pc : ℕ) (run : Ended') : Type 0 where
  pub ends : until 1000000 Task code h ≡ Some run
  pub path : SectionFrom code pc run.path

-- what a section answers, and the state after it: nothing comes where there is no next place
abbrev pub SectionGives : CodeValue → Held → Stepped → Held → Type 0
SectionGives code old answer new =
    MatchOption (next_of code old) ((answer ≡ NoStep) × (new ≡ old)) (λ pc. (run : Ended') × IsSection code old pc run × (answer ≡ stepped_of run.did) × (new ≡ run.after))

-- these are the answers of the first sections from a state, or of all that there are
pub data Answers (code : CodeValue) : ℕ → Held → List Stepped → Type 0 where
  Enough : {h : Held} → Answers code 0 h []
  Over : {most : ℕ} {h : Held} → next_of code h ≡ None → Answers code most h []
  Goes : {most : ℕ} {h : Held} {answers : List Stepped} → (pc : ℕ) (run : Ended') → next_of code h ≡ Some pc → until 1000000 Task code h ≡ Some run → Answers code most run.after answers → Answers code (suc most) h (stepped_of run.did ∷ answers)

-- the run of an object for at most this many sections
abbrev pub IsRunOf : Object → ℕ → List Stepped → Type 0
IsRunOf o most answers = Answers o.code most (first_of o) answers
