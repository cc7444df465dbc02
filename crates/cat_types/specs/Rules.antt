-- Which pieces break a rule.
use Rattle.std.specs.Prelude.{◌≡◌, ℕ, ◌≤◌, Bool, List, length, sum_by, Result, Ok, Err}
use Rattle.cat_conditions.specs.Offences.{Exceeds, NoneOf, IsFirst}
use Rattle.cat_conditions.specs.Pieces.{Piece}
use Rattle.cat_conditions.specs.Local as spec
use Rattle.cat_conditions.specs.Counts.{words, one_event, one_task, task_size, event_size, needs_too_many, runs_too_long}
use Rattle.cat_types.specs.declared.counts.Count.{Count}
use Rattle.cat_types.specs.declared.counts.Count.TheVariants.{Words, Events, Tasks, TaskCode, EventCode}
use Rattle.cat_types.specs.declared.rules.Rule.{Rule}
use Rattle.cat_types.specs.declared.rules.Rule.TheVariants.{NumbersInRange, FewVersions, NoWhileInEvents, NoRepeatInTasks, NoPayloadInTasks, DeadlinesInTime, OperandsFit, HandlersShort}

abbrev pub is_broken : Rule → Piece → Bool
is_broken NumbersInRange = spec.is_out_of_range
is_broken FewVersions = spec.has_many_versions
is_broken NoWhileInEvents = spec.is_event_loop
is_broken NoRepeatInTasks = spec.is_task_turns
is_broken NoPayloadInTasks = spec.is_task_payload
is_broken DeadlinesInTime = spec.is_late
is_broken OperandsFit = needs_too_many
is_broken HandlersShort = runs_too_long

abbrev pub weight_of : Count → Piece → ℕ
weight_of Words = words
weight_of Events = one_event
weight_of Tasks = one_task
weight_of TaskCode = task_size
weight_of EventCode = event_size

-- the sum of all, or the first piece with which it is past the limit
abbrev pub Totals : (Piece → ℕ) → ℕ → List Piece → Result ℕ ℕ → Type 0
Totals weight limit pieces (Ok total) = NoneOf (length pieces) (Exceeds weight limit pieces) × (total ≡ sum_by weight pieces) × (total ≤ limit)
Totals weight limit pieces (Err place) = IsFirst (length pieces) (Exceeds weight limit pieces) place
