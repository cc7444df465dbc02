-- The reference run: what the source says for a schedule of task steps and arrivals.
use Rattle.std.specs.Prelude.{◌≡◌, ◌≤◌, ◌<◌, ◌⊎◌, ⊤, ℕ, zero, suc, ◌+◌, ◌-◌, ◌==◌, nat_le, if◌then◌else◌, List, [], ◌∷◌, ◌++◌, length, map, take, reverse, count_by, Option, Some, None, option_map, slice_get, slice_index}
use Rattle.std.specs.Option.{option_and_then}
use Rattle.cat_program.specs.declared.headers.Event.{Event}
use Rattle.cat_program.specs.declared.outs.LogEntry.{LogEntry}
use Rattle.cat_program.specs.declared.outs.LogEntry.TheVariants as entry
use Rattle.cat_program.specs.declared.syntax.Stepped.{Stepped}
use Rattle.cat_program.specs.declared.syntax.Stepped.TheVariants as stepped
use Rattle.cat_program.specs.Body.{Body}
use Rattle.cat_program.specs.Checked.{Checked, HasVersion, body_at, first_state, version_at}
use Rattle.cat_program.specs.Meaning.{Handled, TaskState, TaskStep, handled, task_step_of}
use Rattle.cat_program.specs.OutsValue.{entry_of}
use Rattle.cat_eval.specs.Cursor.{Fits, state_of}
use Rattle.cat_eval.specs.StateValue.{StateValue}
use Rattle.event_arrivals.specs.Arrivals.{Lists}
use Rattle.event_arrivals.specs.Next.{IsNext}
use Rattle.event_arrivals.specs.declared.arrival.Arrival.{Arrival}
use Rattle.reference_run.specs.declared.whole.RefFault.{RefFault}
use Rattle.reference_run.specs.declared.whole.RefFault.TheVariants as fault
use Rattle.reference_run.specs.declared.schedule.Item.{Item}
use Rattle.reference_run.specs.declared.schedule.Schedule.{Schedule}

-- the program, the version in which each event is handled, and the arrivals
pub record Setting : Type 0 where
  pub program : Checked
  pub versions : List ℕ
  pub arrivals : Lists

abbrev pub setting_of : Checked → List ℕ → Lists → Setting
setting_of program versions arrivals = record { program = program; versions = versions; arrivals = arrivals }

-- each event of the program has arrivals, and a version that exists
pub record AreFor (s : Setting) : Type 0 where
  pub arrivals : length s.arrivals.timings ≡ length s.program.events
  pub versions : length s.versions ≡ length s.program.events
  pub exist : (event : ℕ) → event < length s.program.events → HasVersion s.program event (slice_index s.versions event)

-- how many ticks each event has to be done
abbrev pub deadlines_of : Checked → List ℕ
deadlines_of p = map (λ header. header.deadline) p.headers

-- how far a run has come: the state of the tasks, the steps that have been taken, and the entries
pub record Moment : Type 0 where
  pub state : TaskState
  pub steps : ℕ
  pub entries : List LogEntry

abbrev pub first_moment : Checked → Moment
first_moment p = record { state = first_state p; steps = 0; entries = [] }

-- ---- steps

abbrev pub entries_of : Stepped → List LogEntry
entries_of (stepped.Out channel value) = entry.Out channel value ∷ []
entries_of stepped.Quiet = []
entries_of stepped.None = []

abbrev pub after_step : Moment → TaskStep → Moment
after_step m step = record { state = step.after; steps = m.steps + 1; entries = m.entries ++ entries_of step.answer }

-- one step of the tasks, where there is one
abbrev pub next_moment : (ℕ → Body) → Moment → Option Moment
next_moment bodies m = option_map (after_step m) (task_step_of bodies m.state)

-- so many steps, where there are as many
unfoldable pub advance : (ℕ → Body) → ℕ → Moment → Option Moment
advance bodies zero m = Some m
advance bodies (suc n) m = option_and_then (advance bodies n) (next_moment bodies m)

-- steps until so many have been taken in all
abbrev pub advance_to : (ℕ → Body) → ℕ → Moment → Option Moment
advance_to bodies n m = if nat_le m.steps n then advance bodies (n - m.steps) m else None

-- ---- items: those before one are given with the last one first

-- how many items were an event's
abbrev pub done_in : List Item → ℕ → ℕ
done_in earlier event = count_by (λ item. item.event == event) earlier

abbrev pub last_start : List Item → ℕ
last_start [] = 0
last_start (item ∷ earlier) = item.start

-- the arrival that an item may handle, where the last start and the done counts are these
pub record MayHandle (s : Setting) (last : ℕ) (done : ℕ → ℕ) (item : Item) (arrival : Arrival) : Type 0 where
  pub in_order : last ≤ item.start
  pub next : IsNext s.arrivals (deadlines_of s.program) done item.start item.event (done item.event) arrival
  pub version : slice_index s.versions item.event ≡ item.version

abbrev pub with_handled : Moment → Handled → LogEntry → Moment
with_handled m h ran = record { state = record { store = h.store; current = m.state.current }; steps = m.steps; entries = m.entries ++ map entry_of h.outs ++ ran ∷ [] }

-- the moment after an item has handled an arrival of this index: its outputs, and then its own entry
abbrev pub after_item : Checked → Item → ℕ → Arrival → Moment → Moment
after_item p item index arrival m =
    with_handled m (handled (version_at p item.event item.version) arrival.payload m.state.store) (entry.Ran item.event item.version item.steps item.start index)

-- an item leads from one moment to another
pub record Leads (s : Setting) (earlier : List Item) (item : Item) (before after : Moment) : Type 0 where
  pub begun : Moment
  pub arrival : Arrival
  pub steps : advance_to (body_at s.program) item.steps before ≡ Some begun
  pub may : MayHandle s (last_start earlier) (done_in earlier) item arrival
  pub after_is : after ≡ after_item s.program item (done_in earlier item.event) arrival begun

-- ---- runs

-- the run of some items, the last one first, comes to a moment
abbrev pub IsRun : Setting → List Item → Moment → Type 0
IsRun s [] m = m ≡ first_moment s.program
IsRun s (item ∷ earlier) m = (before : Moment) × IsRun s earlier before × Leads s earlier item before m

-- the run of all items, and of the steps up to the total
pub record IsReference (s : Setting) (schedule : Schedule) (end : Moment) : Type 0 where
  pub begun : Moment
  pub items : IsRun s (reverse schedule.items) begun
  pub total : advance_to (body_at s.program) schedule.total begun ≡ Some end

pub record IsEnd (s : Setting) (schedule : Schedule) (state : StateValue) (entries : List LogEntry) : Type 0 where
  pub fits : Fits s.program state
  pub end : Moment
  pub run : IsReference s schedule end
  pub state_is : state_of s.program state ≡ end.state
  pub entries_are : entries ≡ end.entries

-- the run takes the items before item `i`, and not this one
pub record IsBroken (s : Setting) (items : List Item) (i : ℕ) : Type 0 where
  pub item : Item
  pub there : slice_get items i ≡ Some item
  pub before : Moment
  pub run : IsRun s (reverse (take i items)) before
  pub stuck : (after : Moment) → ¬ (Leads s (reverse (take i items)) item before after)

-- the run takes all items, and not the steps up to the total
pub record IsShort (s : Setting) (schedule : Schedule) (i : ℕ) : Type 0 where
  pub all : i ≡ length schedule.items
  pub before : Moment
  pub run : IsRun s (reverse schedule.items) before
  pub stuck : advance_to (body_at s.program) schedule.total before ≡ None

-- the first item that breaks the schedule, or the number of items where only the total does
abbrev pub HasFault : Setting → Schedule → ℕ → Type 0
HasFault s schedule i = IsBroken s schedule.items i ⊎ IsShort s schedule i

abbrev pub IsFault : Setting → Schedule → RefFault → Type 0
IsFault s schedule (fault.BadSchedule i) = HasFault s schedule i
IsFault s schedule fault.NoMemory = ⊤
