-- What the code holds of a run.
use Rattle.std.specs.Prelude.{◌≡◌, ◌≤◌, ◌<◌, ◌⊎◌, ℕ, ◌+◌, List, [], length, take, reverse, replicate, Option, Some, slice_index, slice_set}
use Rattle.cat_program.specs.Checked.{Checked, body_at, first_state}
use Rattle.cat_eval.specs.Cursor.{Fits, state_of}
use Rattle.event_arrivals.specs.Arrivals.{Lists, arrival_at}
use Rattle.event_arrivals.specs.Next.{ComesFirst}
use Rattle.event_arrivals.specs.declared.arrival.Arrival.{Arrival}
use Rattle.reference_run.specs.declared.run.Run.{Run}
use Rattle.reference_run.specs.declared.schedule.Item.{Item}
use Rattle.reference_run.specs.Reference.{IsRun, Moment, Setting, advance_to, after_item, done_in, last_start, next_moment}

abbrev pub moment_of : Checked → Run → Moment
moment_of p run = record { state = state_of p run.state; steps = run.steps; entries = run.entries.items }

pub record IsFirst (p : Checked) (run : Run) : Type 0 where
  pub fits : Fits p run.state
  pub state : state_of p run.state ≡ first_state p
  pub entries : run.entries.items ≡ []
  pub steps : run.steps ≡ 0
  pub start : run.start ≡ 0
  pub done : run.done.items ≡ replicate (length p.events) 0

-- the steps of a run have changed nothing else
pub record IsBeside (old new : Run) : Type 0 where
  pub start : new.start ≡ old.start
  pub done : new.done.items ≡ old.done.items

pub record HasStepped (p : Checked) (old new : Run) : Type 0 where
  pub fits : Fits p new.state
  pub moment : next_moment (body_at p) (moment_of p old) ≡ Some (moment_of p new)
  pub beside : IsBeside old new

pub record HasAdvanced (p : Checked) (upto : ℕ) (old new : Run) : Type 0 where
  pub fits : Fits p new.state
  pub moment : advance_to (body_at p) upto (moment_of p old) ≡ Some (moment_of p new)
  pub beside : IsBeside old new

pub record HasHandled (p : Checked) (item : Item) (arrival : Arrival) (old new : Run) : Type 0 where
  pub fits : Fits p new.state
  pub moment : moment_of p new ≡ after_item p item (slice_index old.done.items item.event) arrival (moment_of p old)
  pub start : new.start ≡ item.start
  pub done : new.done.items ≡ slice_set old.done.items item.event (slice_index old.done.items item.event + 1)

-- the run has taken the first `i` items
pub record IsAt (s : Setting) (items : List Item) (i : ℕ) (run : Run) : Type 0 where
  pub fits : Fits s.program run.state
  pub moment : IsRun s (reverse (take i items)) (moment_of s.program run)
  pub start : run.start ≡ last_start (reverse (take i items))
  pub each : length run.done.items ≡ length s.program.events
  pub counts : (event : ℕ) → slice_index run.done.items event ≡ done_in (reverse (take i items)) event

-- an event's arrival of this index has come, and is to be done before another event's that is due at `due`
pub record IsSooner (lists : Lists) (deadlines : List ℕ) (now event index due than : ℕ) : Type 0 where
  pub arrival : Arrival
  pub is_it : arrival_at lists event index ≡ Some arrival
  pub come : arrival.tick ≤ now
  pub before : (arrival.tick + slice_index deadlines event < due) ⊎ ((arrival.tick + slice_index deadlines event ≡ due) × (event < than))

abbrev pub IsNoSooner : Lists → List ℕ → ℕ → ℕ → ℕ → ℕ → ℕ → Type 0
IsNoSooner lists deadlines now event index due than =
    (arrival : Arrival) → arrival_at lists event index ≡ Some arrival → arrival.tick ≤ now
    → (due < arrival.tick + slice_index deadlines event) ⊎ ((due ≡ arrival.tick + slice_index deadlines event) × (than ≤ event))
