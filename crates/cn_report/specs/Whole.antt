-- The report of a run: a function of what was chosen, of the events and variables that the program declares, of the arrivals, of what
-- its board went through and how it ended, and of how many records were in the log before it began.
use Rattle.std.specs.Prelude.{ℕ, Bool, List, ◌++◌}
use Rattle.cat_program.specs.declared.headers.Event.{Event}
use Rattle.cat_program.specs.declared.headers.Variable.{Variable}
use Rattle.cat_program.specs.Checked.{Checked}
use Rattle.degradation.specs.declared.chosen.Chosen.{Chosen}
use Rattle.forecast_table.specs.declared.epoch.Epoch.{Epoch}
use Rattle.event_arrivals.specs.Arrivals.{Lists}
use Rattle.recovery.specs.Committed.{Committed, IsCommitted}
use Rattle.cn_scheduler.specs.declared.engine.End.{End}
use Rattle.cn_report.specs.Report.{rows_text}
use Rattle.recovery.specs.Past.{Past, last_image, last_slot}
use Rattle.cn_report.specs.Story.{dropped_text, story_text}
use Rattle.cn_report.specs.Outcome.{log_text, end_line, variables_text}

-- the lines from the first one of the log on
abbrev pub outcome_text : List Event → List Variable → Lists → Past → ℕ → ℕ → ℕ → End → List ℕ
outcome_text headers variables lists past from tick stored ending =
    log_text headers lists past from ++ (end_line tick stored (last_slot past).steps ending ++ variables_text (last_slot past) variables)

-- of a run whose first `from` records were there before it began
abbrev pub resumed_text : List Event → List Variable → Bool → List Epoch → List Chosen → Lists → Past → ℕ → ℕ → ℕ → End → List ℕ
resumed_text headers variables shown rows found lists past from tick stored ending =
    rows_text headers shown rows found
    ++ (dropped_text headers lists.dropped ++ (story_text past ++ outcome_text headers variables lists past from tick stored ending))

-- of a run that began with the program's first image, where there are no records
abbrev pub report_text : List Event → List Variable → Bool → List Epoch → List Chosen → Lists → Past → ℕ → ℕ → End → List ℕ
report_text headers variables shown rows found lists past tick stored ending =
    resumed_text headers variables shown rows found lists past 0 tick stored ending

-- What a report is made of: the board began with an image that has committed a value, and so has its last one.
pub record IsReplayed (program : Checked) (past : Past) : Type 0 where
  pub begun : Committed
  pub is_begun : IsCommitted past.layout program past.first begun
  pub value : Committed
  pub committed : IsCommitted past.layout program (last_image past) value
