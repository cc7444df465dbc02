-- What is done at a decision point.
use Rattle.std.specs.Prelude.{◌≡◌, ℕ, nat_le, Bool, ◌&&◌, not, is_some, if◌then◌else◌, Option, Some, None, MatchOption, slice_index}
use Rattle.cat_machine.specs.Machine.{place_or}
use Rattle.event_arrivals.specs.Next.{IsPending}
use Rattle.event_arrivals.specs.declared.arrival.Arrival.{Arrival}
use Rattle.event_queue.specs.declared.queue.Due.{Due}
use Rattle.event_queue.specs.Queue.{QueueValue, IsDue}
use Rattle.cn_scheduler.specs.declared.plan.Plan.{Plan}
use Rattle.cn_scheduler.specs.declared.choice.Choice.{Choice}
use Rattle.cn_scheduler.specs.declared.choice.Choice.TheVariants.{Job, Section, Checkpoint, Wake, Sleep}
use Rattle.cn_scheduler.specs.InForce.{need_at, level_at, units_of}
use Rattle.cn_scheduler.specs.Point.{Work, Point}

-- the arrival that is next at a tick, or none where nothing is pending
abbrev pub IsNextDue : QueueValue → (ℕ → ℕ) → ℕ → Option Due → Type 0
IsNextDue queue done now next = MatchOption next ((event k : ℕ) (arrival : Arrival) → ¬ (IsPending queue.arrivals done now event k arrival)) (IsDue queue done now)

-- the tasks have a step to take
abbrev pub has_step : Plan → Work → Bool
has_step plan w = is_some (place_or plan.code w.posts w.place)

abbrev pub if_dirty : Bool → Choice
if_dirty dirty = if dirty then Checkpoint else Sleep

-- the next arrival's job, where the store has the units for it
abbrev pub job_choice : Plan → Point → Due → Choice
job_choice plan p due = if nat_le (units_of plan.rows due) p.board.stored then Job due else if_dirty p.dirty

-- a section of a board that is on, or a wake of one that is off, where a step exists and the store is high enough
abbrev pub task_choice : Plan → Point → Choice
task_choice plan p =
    if has_step plan p.work && p.board.on && nat_le (need_at plan.rows p.board.tick) p.board.stored then Section
    else if has_step plan p.work && not p.board.on && nat_le (level_at plan.rows p.board.tick) p.board.stored then Wake
    else if_dirty p.dirty

abbrev pub choice_with : Plan → Point → Option Due → Choice
choice_with plan p (Some due) = job_choice plan p due
choice_with plan p None = task_choice plan p

-- What the policy names: jobs come first, and what cannot go on yet is saved before the board sleeps.
pub record Chooses (plan : Plan) (p : Point) (choice : Choice) : Type 0 where
  pub next : Option Due
  pub is_next : IsNextDue plan.queue (slice_index p.work.done) p.board.tick next
  pub choice_is : choice ≡ choice_with plan p next
