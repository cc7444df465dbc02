-- Moments of runs that are the reference run of what they tell themselves.
use Rattle.std.specs.Prelude.{◌≡◌, ◌≤◌, ℕ, List, [], ◌∷◌, ◌++◌, reverse, Some, slice_get}
use Rattle.cat_program.specs.declared.outs.LogEntry.{LogEntry}
use Rattle.cat_program.specs.declared.outs.LogEntry.TheVariants.{Out, Ran}
use Rattle.cat_program.specs.Checked.{body_at}
use Rattle.event_arrivals.specs.Arrivals.{arrival_at}
use Rattle.event_arrivals.specs.declared.arrival.Arrival.{Arrival}
use Rattle.reference_run.specs.declared.schedule.Item.{Item}
use Rattle.reference_run.specs.declared.schedule.Schedule.{Schedule}
use Rattle.reference_run.specs.Reference.{Moment, advance_to}
use Rattle.logged_runs.specs.Reference.{Setting, IsRun, IsReference, version_for}

-- the items that some entries tell
abbrev pub items_in : List LogEntry → List Item
items_in [] = []
items_in (Out channel value ∷ entries) = items_in entries
items_in (Ran event version steps start index ∷ entries) = record { steps = steps; event = event; version = version; start = start } ∷ items_in entries

-- the schedule that entries and a step count tell
abbrev pub schedule_of : List LogEntry → ℕ → Schedule
schedule_of entries total = record { items = items_in entries; total = total }

-- a moment is the end of the reference run of its own entries and steps
abbrev pub IsOwn : Setting → Moment → Type 0
IsOwn s m = IsReference s (schedule_of m.entries m.steps) m

-- the number of steps by which the next item comes, or the total where there is none
abbrev pub upto : List Item → ℕ → ℕ
upto [] total = total
upto (item ∷ later) total = item.steps

-- The run of a schedule comes by a moment: it has taken some of the items, and then steps that come before the next one.
pub record ComesBy (s : Setting) (schedule : Schedule) (m : Moment) : Type 0 where
  pub taken : List Item
  pub later : List Item
  pub split : schedule.items ≡ taken ++ later
  pub begun : Moment
  pub items : IsRun s (reverse taken) begun
  pub steps : advance_to (body_at s.program) m.steps begun ≡ Some m
  pub in_time : m.steps ≤ upto later schedule.total

abbrev pub IsPrefixOf : {A : Type 0} → List A → List A → Type 0
IsPrefixOf {A} xs ys = (rest : List A) × (ys ≡ xs ++ rest)

-- one moment is an earlier one of the run that another is the end of
pub record IsEarlier (s : Setting) (m end : Moment) : Type 0 where
  pub entries : IsPrefixOf m.entries end.entries
  pub steps : m.steps ≤ end.steps
  pub state : ComesBy s (schedule_of end.entries end.steps) m

-- no arrival was handled twice, and each in its version
pub record AreServedOnce (s : Setting) (entries : List LogEntry) : Type 0 where
  pub once : (i j event index v n t v' n' t' : ℕ) → slice_get entries i ≡ Some (Ran event v n t index) → slice_get entries j ≡ Some (Ran event v' n' t' index) → i ≡ j
  pub version : (i event index v n t : ℕ) → slice_get entries i ≡ Some (Ran event v n t index)
      → (arrival : Arrival) × (arrival_at s.arrivals event index ≡ Some arrival) × (version_for s event arrival ≡ v)
