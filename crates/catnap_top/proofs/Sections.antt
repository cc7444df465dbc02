-- The sections of an object, one after the other.
use Rattle.std.proofs.Common.{◌≡◌, ℕ, zero, suc, ◌+◌, ◌-◌, ◌<◌, ◌≤◌, List, [], ◌∷◌, drop, Option, Some, None, refl, sym, ap, ◌∙◌, arith, MatchOption}
use Rattle.cat_machine.specs.CodeValue.{CodeValue}
use Rattle.cat_machine.specs.Fits.{stepped_of}
use Rattle.cat_machine.specs.Held.{Held}
use Rattle.cat_machine.specs.Machine.{Ended', next_of, until}
use Rattle.cat_machine.specs.declared.instr.Did.{Did}
use Rattle.cat_machine.specs.declared.instr.Did.TheVariants.{Went, Acted, Ended, Emitted}
use Rattle.cat_machine.specs.declared.instr.Mode.TheVariants.{Task}
use Rattle.cat_program.specs.declared.syntax.Stepped.{Stepped}
use Rattle.cat_program.specs.declared.syntax.Stepped.TheVariants.{None as NoStep}
use Rattle.object_runs.specs.Running.{IsSection, SectionGives}
use Rattle.catnap_top.specs.RunObject.{section_answers, section_at, section_then}

-- ---- the answers that are left

sections_stop : (code : CodeValue) (count : ℕ) (h : Held) → next_of code h ≡ None → section_answers code count h ≡ []
unfolding section_answers
sections_stop code zero h e = refl
sections_stop code (suc count) h e = ap (λ n. section_then (section_at code h n) (section_answers code count)) e

sections_next : (code : CodeValue) (count : ℕ) (h : Held) (pc : ℕ) (run : Ended') → next_of code h ≡ Some pc → until 1000000 Task code h ≡ Some run
    → section_answers code (suc count) h ≡ stepped_of run.did ∷ section_answers code count run.after
unfolding section_answers
sections_next code count h pc run e is =
    ap (λ n. section_then (section_at code h n) (section_answers code count)) e ∙ ap (λ s. section_then s (section_answers code count)) is

pub sections_done : (code : CodeValue) (steps taken : ℕ) (h : Held) → steps ≤ taken → section_answers code (steps - taken) h ≡ []
unfolding section_answers
sections_done code steps taken h le = let none : steps - taken ≡ 0 = omega arith in ap (λ n. section_answers code n h) none

-- each section answers something
section_is_some : (did : Did) → stepped_of did ≡ NoStep → ⊥
section_is_some Went e = absurd cc
section_is_some Acted e = absurd cc
section_is_some Ended e = absurd cc
section_is_some (Emitted channel value) e = absurd cc

-- what a call of the machine says of the answers that are left
pub left_stop : (xs : List Stepped) (code : CodeValue) (steps taken : ℕ) (old new : Held) (answer : Stepped)
    → drop taken xs ≡ section_answers code (steps - taken) old → SectionGives code old answer new → answer ≡ NoStep → drop taken xs ≡ []
left_stop xs code steps taken old new answer left is none = left ∙ stopped (next_of code old) refl is where
  stopped : (n : Option ℕ) → next_of code old ≡ n
      → MatchOption n ((answer ≡ NoStep) × (new ≡ old)) (λ pc. (run : Ended') × IsSection code old pc run × (answer ≡ stepped_of run.did) × (new ≡ run.after))
      → section_answers code (steps - taken) old ≡ []
  stopped None e at = sections_stop code (steps - taken) old e
  stopped (Some pc) e at = absurd (section_is_some at.0.did (sym at.2 ∙ none))

pub left_go : (xs : List Stepped) (code : CodeValue) (steps taken : ℕ) (old new : Held) (answer : Stepped)
    → drop taken xs ≡ section_answers code (steps - taken) old → taken < steps → SectionGives code old answer new → ¬ (answer ≡ NoStep)
    → drop taken xs ≡ answer ∷ section_answers code (steps - (taken + 1)) new
left_go xs code steps taken old new answer left lt is some = left ∙ gone (next_of code old) refl is where
  gone : (n : Option ℕ) → next_of code old ≡ n
      → MatchOption n ((answer ≡ NoStep) × (new ≡ old)) (λ pc. (run : Ended') × IsSection code old pc run × (answer ≡ stepped_of run.did) × (new ≡ run.after))
      → section_answers code (steps - taken) old ≡ answer ∷ section_answers code (steps - (taken + 1)) new
  gone None e at = absurd (some at.0)
  gone (Some pc) e at =
      let one : steps - taken ≡ suc (steps - (taken + 1)) = omega arith in
      ap (λ n. section_answers code n old) one
      ∙ sections_next code (steps - (taken + 1)) old pc at.0 e at.1.ends
      ∙ ap (λ a. a ∷ section_answers code (steps - (taken + 1)) at.0.after) (sym at.2)
      ∙ ap (λ s. answer ∷ section_answers code (steps - (taken + 1)) s) (sym at.3)
