-- The reference run where the versions in force may change from tick to tick: each arrival is handled in the version in force
-- at its own tick.
use Rattle.std.specs.Prelude.{◌≡◌, ◌≤◌, ℕ, List, [], ◌∷◌, reverse, Some, slice_index}
use Rattle.cat_program.specs.Checked.{Checked, body_at}
use Rattle.event_arrivals.specs.Arrivals.{Lists}
use Rattle.event_arrivals.specs.Next.{IsNext}
use Rattle.event_arrivals.specs.declared.arrival.Arrival.{Arrival}
use Rattle.reference_run.specs.declared.schedule.Item.{Item}
use Rattle.reference_run.specs.declared.schedule.Schedule.{Schedule}
use Rattle.reference_run.specs.Reference.{Moment, advance_to, after_item, deadlines_of, done_in, first_moment, last_start}

-- the program, the versions in force at each tick, and the arrivals
pub record Setting : Type 0 where
  pub program : Checked
  pub versions : ℕ → List ℕ
  pub arrivals : Lists

-- the version in which an event's arrival is handled
abbrev pub version_for : Setting → ℕ → Arrival → ℕ
version_for s event arrival = slice_index (s.versions arrival.tick) event

-- the arrival that an item may handle, where the last start and the done counts are these
pub record MayHandle (s : Setting) (last : ℕ) (done : ℕ → ℕ) (item : Item) (arrival : Arrival) : Type 0 where
  pub in_order : last ≤ item.start
  pub next : IsNext s.arrivals (deadlines_of s.program) done item.start item.event (done item.event) arrival
  pub version : version_for s item.event arrival ≡ item.version

-- an item leads from one moment to another
pub record Leads (s : Setting) (earlier : List Item) (item : Item) (before after : Moment) : Type 0 where
  pub begun : Moment
  pub arrival : Arrival
  pub steps : advance_to (body_at s.program) item.steps before ≡ Some begun
  pub may : MayHandle s (last_start earlier) (done_in earlier) item arrival
  pub after_is : after ≡ after_item s.program item (done_in earlier item.event) arrival begun

-- the run of some items, the last one first, comes to a moment
abbrev pub IsRun : Setting → List Item → Moment → Type 0
IsRun s [] m = m ≡ first_moment s.program
IsRun s (item ∷ earlier) m = (before : Moment) × IsRun s earlier before × Leads s earlier item before m

-- the run of all items, and of the steps up to the total
pub record IsReference (s : Setting) (schedule : Schedule) (end : Moment) : Type 0 where
  pub begun : Moment
  pub items : IsRun s (reverse schedule.items) begun
  pub total : advance_to (body_at s.program) schedule.total begun ≡ Some end
