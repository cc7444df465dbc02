-- What holds of runs that are their own reference.
use Rattle.std.specs.Prelude.{◌≡◌, ◌≤◌, ◌<◌, ◌↔◌, ℕ, ◌+◌, List, length, reverse, Some, count_by, slice_get, slice_index, ◌==◌, if◌then◌else◌}
use Rattle.cat_program.specs.Body.{Body}
use Rattle.cat_program.specs.Meaning.{Handled}
use Rattle.cat_program.specs.declared.outs.LogEntry.{LogEntry}
use Rattle.cat_program.specs.declared.outs.LogEntry.TheVariants.{Ran}
use Rattle.cat_program.specs.Checked.{Checked, body_at}
use Rattle.event_arrivals.specs.Arrivals.{Lists}
use Rattle.event_arrivals.specs.Next.{IsNext}
use Rattle.event_arrivals.specs.Counts.{came}
use Rattle.event_arrivals.specs.Spaced.{AreSpaced, AreSound}
use Rattle.event_arrivals.specs.declared.arrival.Arrival.{Arrival}
use Rattle.recovery.specs.Committed.{is_ran}
use Rattle.reference_run.specs.declared.schedule.Item.{Item}
use Rattle.reference_run.specs.declared.schedule.Schedule.{Schedule}
use Rattle.reference_run.specs.Reference.{Moment, after_item, first_moment, next_moment, setting_of, deadlines_of, with_handled}
use Rattle.reference_run.specs.Reference as fixed
use Rattle.logged_runs.specs.Reference.{Setting, IsReference}
use Rattle.logged_runs.specs.Own.{IsOwn, ComesBy, IsEarlier, AreServedOnce, items_in}

-- how many entries say that an event was handled
abbrev pub counts_of : List LogEntry → ℕ → ℕ
counts_of entries event = count_by (is_ran event) entries

-- the start of the last event that was handled
abbrev pub last_start_of : List LogEntry → ℕ
last_start_of entries = fixed.last_start (reverse (items_in entries))

-- the item by which an arrival is handled now, in the version in force at its tick
abbrev pub item_at : Setting → Moment → ℕ → ℕ → Arrival → Item
item_at s m start event arrival = record { steps = m.steps; event = event; version = slice_index (s.versions arrival.tick) event; start = start }

-- the moment after it
abbrev pub after_arrival : Setting → Moment → ℕ → ℕ → Arrival → Moment
after_arrival s m start event arrival = after_item s.program (item_at s m start event arrival) (counts_of m.entries event) arrival m

pub record OwnRunsGoOn (s : Setting) : Type 0 where
  -- a run begins with the first state
  pub first : IsOwn s (first_moment s.program)
  -- with a step more it is its own reference again
  pub step : (m after : Moment) → IsOwn s m → next_moment (body_at s.program) m ≡ Some after → IsOwn s after × IsEarlier s m after
  -- and with an arrival more, where this is the next one at a tick that is not before the last one's
  pub arrival : (m : Moment) (start event k : ℕ) (arrival : Arrival) → AreSpaced s.arrivals → IsOwn s m → last_start_of m.entries ≤ start
      → IsNext s.arrivals (deadlines_of s.program) (counts_of m.entries) start event k arrival
      → (k ≡ counts_of m.entries event) × IsOwn s (after_arrival s m start event arrival) × IsEarlier s m (after_arrival s m start event arrival)
  -- in such a run no arrival is handled twice
  pub served : (m : Moment) → IsOwn s m → AreServedOnce s m.entries

pub record EarlierRunsAreOrdered (s : Setting) : Type 0 where
  pub itself : (m : Moment) → IsOwn s m → IsEarlier s m m
  pub onward : (a b c : Moment) → IsEarlier s a b → IsEarlier s b c → IsEarlier s a c

-- what a step and an arrival add to what the entries tell
pub record EntriesTell : Type 0 where
  pub step_counts : (bodies : ℕ → Body) (m after : Moment) (event : ℕ) → next_moment bodies m ≡ Some after → counts_of after.entries event ≡ counts_of m.entries event
  pub step_start : (bodies : ℕ → Body) (m after : Moment) → next_moment bodies m ≡ Some after → last_start_of after.entries ≡ last_start_of m.entries
  pub arrival_counts : (m : Moment) (h : Handled) (e event version steps start index : ℕ)
      → counts_of (with_handled m h (Ran event version steps start index)).entries e ≡ counts_of m.entries e + (if e == event then 1 else 0)
  pub arrival_start : (m : Moment) (h : Handled) (event version steps start index : ℕ) → last_start_of (with_handled m h (Ran event version steps start index)).entries ≡ start

-- the run that a schedule has is one, and so is its moment with so many entries and steps
pub record RunsAreOne (s : Setting) : Type 0 where
  pub end : (schedule : Schedule) (a b : Moment) → IsReference s schedule a → IsReference s schedule b → a ≡ b
  pub moment : (schedule : Schedule) (a b : Moment) → ComesBy s schedule a → ComesBy s schedule b → length a.entries ≡ length b.entries → a.steps ≡ b.steps → a ≡ b

-- where the versions are the same at all ticks, it is the reference run of these versions
pub record AgreesWithOne (program : Checked) (versions : List ℕ) (arrivals : Lists) : Type 0 where
  pub same : (schedule : Schedule) (end : Moment)
      → (IsReference (record { program = program; versions = λ tick. versions; arrivals = arrivals }) schedule end) ↔ (fixed.IsReference (setting_of program versions arrivals) schedule end)

-- what such a run has handled has come, and its entries tell each by its number
pub record OwnRunsHandleArrivals (s : Setting) : Type 0 where
  pub come : (m : Moment) (event : ℕ) → AreSound s.arrivals → IsOwn s m → counts_of m.entries event ≤ came s.arrivals event (last_start_of m.entries + 1)
  -- an arrival has an entry exactly where its number is below the count of its event
  pub told : (m : Moment) (event k : ℕ) → IsOwn s m → k < counts_of m.entries event
      → (i : ℕ) × (v : ℕ) × (n : ℕ) × (t : ℕ) × (slice_get m.entries i ≡ Some (Ran event v n t k))
  pub counted : (m : Moment) (i event v n t k : ℕ) → IsOwn s m → slice_get m.entries i ≡ Some (Ran event v n t k) → k < counts_of m.entries event
