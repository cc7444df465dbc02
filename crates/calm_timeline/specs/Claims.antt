-- What is claimed of a calm stretch.
use Rattle.std.specs.Prelude.{◌≡◌, ℕ, ◌+◌, ◌-◌, ◌<◌, ◌≤◌, ◌&&◌, not, nat_le, false, if◌then◌else◌, List, [], ◌∷◌, ◌++◌, length, Some, All, slice_index}
use Rattle.nv_memory.specs.declared.entry.Entry.{Entry}
use Rattle.event_arrivals.specs.Arrivals.{arrival_at}
use Rattle.event_arrivals.specs.Counts.{came}
use Rattle.event_arrivals.specs.declared.arrival.Arrival.{Arrival}
use Rattle.event_queue.specs.declared.queue.Due.{Due}
use Rattle.cn_scheduler.specs.declared.plan.Plan.{Plan}
use Rattle.cn_scheduler.specs.declared.plan.PlanRow.{PlanRow}
use Rattle.cn_scheduler.specs.declared.choice.Choice.TheVariants.{Job}
use Rattle.cn_scheduler.specs.declared.engine.Chunk.TheVariants.{Ended}
use Rattle.cn_scheduler.specs.Point.{Point}
use Rattle.cn_scheduler.specs.Chunks.{Link, is_last, point_after, entries_of}
use Rattle.calm_stretch.specs.Loads.{units_of}
use Rattle.calm_timeline.specs.Calm.{kept_by}

-- how many arrivals of an event are pending, those of tick t included
abbrev pub waiting : Plan → (ℕ → ℕ) → ℕ → ℕ → ℕ
waiting plan done t event = came plan.queue.arrivals event (t + 1) - done event

-- there is enough for the jobs of all that is pending, and for a checkpoint if one is to come
abbrev pub HasEnough : Plan → PlanRow → Point → Type 0
HasEnough plan row p = units_of row.loads (waiting plan (slice_index p.work.done) p.board.tick) + kept_by row p.dirty ≤ p.board.stored

-- how many arrivals of each event are done by tick t: those of the last decision point up to it
abbrev pub done_by : Point → List Link → ℕ → ℕ → ℕ
done_by p [] t event = slice_index p.work.done event
done_by p (c ∷ links) t event =
    if not (is_last c.outcome) && nat_le c.after.board.tick t then done_by c.after links t event else slice_index p.work.done event

-- One of these chunks is the whole job of arrival number k of an event. It ended by tick d, its event's count is past it, and nothing is
-- left to save.
pub record IsServed (links : List Link) (event k d : ℕ) : Type 0 where
  pub before : List Link
  pub job : Link
  pub after : List Link
  pub is_one : links ≡ before ++ job ∷ after
  pub due : Due
  pub choice_is : job.choice ≡ Job due
  pub event_is : due.event ≡ event
  pub index_is : due.index ≡ k
  pub ended : job.outcome ≡ Ended
  pub some : 0 < length job.entries
  pub in_time : job.after.board.tick ≤ d
  pub counted : k < slice_index job.after.work.done event
  pub saved : job.after.dirty ≡ false

-- From a decision point to tick z no operation is lost, there is always enough, at most one arrival of each event is pending, and each
-- arrival that comes in these ticks, is not done yet and is due in them, is served by its deadline.
pub record MeetsDeadlines (plan : Plan) (row : PlanRow) (start : Point) (links : List Link) (z : ℕ) : Type 0 where
  pub none_lost : All (λ (entry : Entry). entry.tick < z → entry.lost ≡ false) (entries_of links)
  pub enough : (before after : List Link) (chunk : Link) → links ≡ before ++ chunk ∷ after →
      (point_after start before).board.tick ≤ z → HasEnough plan row (point_after start before)
  pub one_each : (t event : ℕ) → start.board.tick ≤ t → t ≤ z → waiting plan (done_by start links t) t event ≤ 1
  pub met : (event k : ℕ) (arrival : Arrival) → arrival_at plan.queue.arrivals event k ≡ Some arrival → start.board.tick ≤ arrival.tick →
      slice_index start.work.done event ≤ k → arrival.tick + slice_index plan.queue.deadlines event ≤ z → IsServed links event k (arrival.tick + slice_index plan.queue.deadlines event)
