-- The text of a plan: the least harvest, the choice at it, and the verdict on the next smaller one.
use Rattle.std.specs.Prelude.{ℕ, List, [], ◌∷◌, ◌++◌, Option, Some, None, codes, decimal}
use Rattle.cat_program.specs.Checked.{Checked}
use Rattle.feasibility.specs.declared.decide.Verdict.{Verdict}
use Rattle.degradation.specs.declared.chosen.Chosen.{Chosen}
use Rattle.cn_plan.specs.declared.answer.Least.{Least}
use Rattle.cn_plan.specs.declared.answer.Least.TheVariants.{Found, Never}
use Rattle.cn_base.specs.Texts.{line}
use Rattle.cn_report.specs.Report.{chosen_text, verdict_words}

-- the words of a verdict behind others
abbrev pub verdict_line : List ℕ → Verdict → List ℕ
verdict_line front verdict = line (front ∷ verdict_words verdict)

abbrev pub harvest_line : ℕ → List ℕ
harvest_line q = line (codes "plan" ∷ decimal q ∷ [])

-- that no smaller harvest is enough: the verdict on the next smaller one, if there is one
abbrev pub below_line : Option Verdict → List ℕ
below_line None = line (codes "below" ∷ codes "none" ∷ [])
below_line (Some verdict) = verdict_line (codes "below") verdict

abbrev pub found_text : Checked → ℕ → Chosen → Option Verdict → List ℕ
found_text p q chosen below = harvest_line q ++ (chosen_text p chosen ++ below_line below)

abbrev pub plan_text : Checked → Least → List ℕ
plan_text p (Found q chosen below) = found_text p q chosen below
plan_text p (Never verdict) = line (codes "plan" ∷ codes "none" ∷ verdict_words verdict)
