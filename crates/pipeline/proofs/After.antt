-- What sections, handlers and instructions leave.
use Rattle.std.proofs.Common.{◌≡◌, Option, Some, None, sym, ◌∙◌, subst}
use Rattle.std.specs.Prelude.{MatchOption}
use Rattle.cat_program.specs.declared.syntax.Stepped.{Stepped}
use Rattle.cat_program.specs.declared.syntax.Stepped.TheVariants.{None as NoStep}
use Rattle.cat_program.specs.Meaning.{TaskStep, task_step_of}
use Rattle.cat_program.specs.Checked.{Checked, body_at, program_marks}
use Rattle.cat_machine.specs.declared.instr.Did.{Did}
use Rattle.cat_machine.specs.declared.instr.Did.TheVariants.{Went, Acted, Ended, Emitted}
use Rattle.cat_machine.specs.declared.instr.Mode.TheVariants.{Task, Handler}
use Rattle.cat_machine.specs.CodeValue.{CodeValue}
use Rattle.cat_machine.specs.Held.{Held}
use Rattle.cat_machine.specs.Machine.{step_of}
use Rattle.cat_machine.specs.Fits.{Corresponds, IsIdle, Fits, AnswerMeans, SectionIs}
use Rattle.pipeline.specs.Between.{IsBetween, IsInTask, IsHandling, GoesOn, Leaves}

pub section_leaves : (p : Checked) (code : CodeValue) (h after : Held) (answer : Stepped) → (b : IsBetween p code h) → Fits p code after → SectionIs p b.idle.state h answer after → IsBetween p code after
section_leaves p code h after answer b fits is = record { fits = fits; idle = by_step (task_step_of (body_at p) b.idle.state) is }
  where
    by_step : (o : Option TaskStep) → MatchOption o ((answer ≡ NoStep) × (after ≡ h)) (λ r. (answer ≡ r.answer) × Corresponds (program_marks p) after r.after) → IsIdle p after
    by_step None m = subst (IsIdle p) (sym m.1) b.idle
    by_step (Some r) m = record { state = r.after; corresponds = m.1 }

-- between two sections is before one
pub in_task : (p : Checked) (code : CodeValue) (h : Held) → IsBetween p code h → IsInTask p code h
in_task p code h b = record { fits = b.fits; free = b.idle.corresponds.free }

pub went_on : (p : Checked) (code : CodeValue) (h after : Held) → step_of Task code h ≡ Some (record { did = Went; after = after }) → AnswerMeans Task p h Went after → Fits p code after → GoesOn p code h after
went_on p code h after step means fits = record { step = step; there = record { fits = fits; free = means.0 } }

pub instruction_leaves : (p : Checked) (code : CodeValue) (h after : Held) (did : Did) → IsHandling p code h → AnswerMeans Handler p h did after → Fits p code after → Leaves p code did after
instruction_leaves p code h after Went g means fits = record { fits = fits; kept = g.kept; keeps = means.0 ∙ g.keeps }
instruction_leaves p code h after (Emitted c v) g means fits = record { fits = fits; kept = g.kept; keeps = means.0 ∙ g.keeps }
instruction_leaves p code h after Ended g means fits = record { fits = fits; idle = means.0 }
instruction_leaves p code h after Acted g means fits = absurd means
