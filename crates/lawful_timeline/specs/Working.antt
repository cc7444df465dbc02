-- What a working value is in a run.
use Rattle.std.specs.Prelude.{◌≡◌, ℕ, ℤ, ◌<◌, List, [], length, slice_index}
use Rattle.std.specs.Option.{option_map_or}
use Rattle.cat_program.specs.Checked.{Checked, IsChecked, program_marks}
use Rattle.cat_machine.specs.Code.{code_of}
use Rattle.cat_machine.specs.Fits.{Corresponds}
use Rattle.event_arrivals.specs.Spaced.{AreSpaced}
use Rattle.reference_run.specs.Reference.{Moment}
use Rattle.logged_runs.specs.Reference.{Setting}
use Rattle.logged_runs.specs.Own.{IsOwn}
use Rattle.logged_runs.specs.Laws.{counts_of}
use Rattle.image_meaning.specs.Standing.{Spells}
use Rattle.cn_scheduler.specs.declared.plan.Plan.{Plan}
use Rattle.cn_scheduler.specs.declared.plan.PlanRow.{PlanRow}
use Rattle.cn_scheduler.specs.InForce.{in_force}
use Rattle.cn_scheduler.specs.Point.{Work, held_of}
use Rattle.cn_scheduler.specs.Belongs.{IsPlanOf}

abbrev pub versions_in : PlanRow → List ℕ
versions_in row = row.versions

-- the versions in force at a tick
abbrev pub versions_at : List PlanRow → ℕ → List ℕ
versions_at rows tick = option_map_or versions_in (in_force rows tick) []

-- the program, with the arrivals and the versions of a plan
abbrev pub setting_of : Checked → Plan → Setting
setting_of program plan = record { program = program; versions = versions_at plan.rows; arrivals = plan.queue.arrivals }

-- the plan is one of a checked program, with its code
pub record IsSetUp (program : Checked) (plan : Plan) : Type 0 where
  pub checked : IsChecked program
  pub code_is : plan.code ≡ code_of program
  pub plan_is : IsPlanOf program plan
  pub spaced : AreSpaced plan.queue.arrivals

-- a working value is at a moment of a run, whose entries the log spells
pub record WorksAs (program : Checked) (plan : Plan) (image : List ℕ) (w : Work) (m : Moment) : Type 0 where
  pub state : (payload : ℤ) → Corresponds (program_marks program) (held_of w payload) m.state
  pub steps : w.steps ≡ m.steps
  pub len : w.len ≡ length m.entries
  pub done : (event : ℕ) → event < plan.layout.events → slice_index w.done event ≡ counts_of m.entries event
  pub spells : Spells plan.layout program image m.entries
  pub own : IsOwn (setting_of program plan) m
