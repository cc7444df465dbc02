-- The runs of a plan are those of the versions that were chosen, and a file's entries are those that its records spell.
use Rattle.std.proofs.Common.{◌≡◌, ℕ, zero, suc, ◌<◌, List, [], ◌∷◌, length, get_or, Option, Some, None, true, refl, sym, ap, ◌∙◌, subst, arith}
use Rattle.std.specs.Prelude.{slice_get}
use Rattle.std.specs.Option.{option_and_then, option_map_or}
use Rattle.std.proofs.lemmas.Bool.Decides.{nat_tests}
use Rattle.cat_program.specs.Body.{Body}
use Rattle.cat_program.specs.Checked.{Checked, rest_at}
use Rattle.cat_program.specs.Resting.{RestsAt}
use Rattle.cat_program.specs.declared.outs.LogEntry.{LogEntry}
use Rattle.nv_memory.specs.declared.device.Device.{Device}
use Rattle.event_arrivals.specs.Arrivals.{Lists}
use Rattle.reference_run.specs.Reference.{Moment}
use Rattle.reference_run.specs.Reference as fixed
use Rattle.logged_runs.specs.Reference.{Setting}
use Rattle.logged_runs.specs.Own.{IsOwn, schedule_of}
use Rattle.logged_runs.specs.Laws.{AgreesWithOne}
use Rattle.degradation.specs.declared.chosen.Chosen.{Chosen}
use Rattle.cn_scheduler.specs.declared.plan.Plan.{Plan}
use Rattle.cn_scheduler.specs.declared.plan.PlanRow.{PlanRow}
use Rattle.cn_scheduler.specs.InForce.{begins_by, in_force}
use Rattle.lawful_timeline.specs.Working.{setting_of, versions_at, versions_in}
use Rattle.cn_runtime.specs.Planned.{plan_row}
use Rattle.cn_runtime.specs.Steady.{IsSteadyPlan}
use Rattle.forecast_choice.specs.Rows.{row_of}

-- ---- one row

begins : (row : PlanRow) (t : ℕ) → row.from ≡ 0 → begins_by t row ≡ true
begins row t from = grind (arith, nat_tests)

only_row : (device : Device) (chosen : Chosen) (t : ℕ) → in_force (plan_row (row_of device) chosen ∷ []) t ≡ Some (plan_row (row_of device) chosen)
only_row device chosen t = rw (begins (plan_row (row_of device) chosen) t refl) refl

abbrev chosen_setting : Checked → Chosen → Lists → Setting
chosen_setting program chosen arrivals = record { program = program; versions = λ tick. chosen.versions; arrivals = arrivals }

-- a moment is the end of the reference run, in the chosen versions, of its own entries and steps
abbrev pub IsFixed : Checked → Chosen → Lists → Moment → Type 0
IsFixed program chosen arrivals m = fixed.IsReference (fixed.setting_of program chosen.versions arrivals) (schedule_of m.entries m.steps) m

module _ (program : Checked) (device : Device) (arrivals : Lists) (chosen : Chosen) (plan : Plan) (is_plan : IsSteadyPlan program device arrivals chosen plan)
    (agrees : AgreesWithOne program chosen.versions arrivals) where
  setting_is : setting_of program plan ≡ chosen_setting program chosen arrivals
  setting_is =
      let versions : (t : ℕ) → versions_at plan.rows t ≡ chosen.versions =
      λ t. ap (λ (o : Option PlanRow). option_map_or versions_in o []) (ap (λ (rows : List PlanRow). in_force rows t) is_plan.rows_are ∙ only_row device chosen t) in
      let arrivals_are = is_plan.arrivals_are in
      λ i. record { program = program; versions = λ t. versions t i; arrivals = arrivals_are i }

  pub own_fixed : (m : Moment) → IsOwn (setting_of program plan) m → IsFixed program chosen arrivals m
  own_fixed m own = (agrees.same (schedule_of m.entries m.steps) m).0 (subst (λ (s : Setting). IsOwn s m) setting_is own)

  pub fixed_own : (m : Moment) → IsFixed program chosen arrivals m → IsOwn (setting_of program plan) m
  fixed_own m is = subst (λ (s : Setting). IsOwn s m) (sym setting_is) ((agrees.same (schedule_of m.entries m.steps) m).1 is)

-- ---- parts

-- what a place stands for is one
pub current_is : (program : Checked) (pc : Option ℕ) (current : Option Body) → RestsAt program pc current → current ≡ option_and_then (rest_at program) pc
current_is program None None rests = refl
current_is program (Some pc) (Some k) rests = sym rests
current_is program None (Some k) rests = absurd rests
current_is program (Some pc) None rests = absurd rests

pub there : (xs : List LogEntry) (k : ℕ) (d : LogEntry) → k < length xs → slice_get xs k ≡ Some (get_or xs k d)
there [] k d less = absurd (omega (arith, less))
there (x ∷ xs) zero d less = refl
there (x ∷ xs) (suc k) d less = there xs k d (omega (arith, less))

pub is_there : (xs : List LogEntry) (k : ℕ) (x d : LogEntry) → slice_get xs k ≡ Some x → get_or xs k d ≡ x
is_there [] k x d is = cc
is_there (y ∷ xs) zero x d is = cc
is_there (y ∷ xs) (suc k) x d is = is_there xs k x d is
