-- Calm stretches of a timeline.
use Rattle.std.specs.Prelude.{◌≡◌, ℕ, ◌+◌, ◌-◌, ◌<◌, ◌≤◌, Bool, false, if◌then◌else◌, List, Some, All, slice_index}
use Rattle.nv_memory.specs.declared.device.Device.{Device}
use Rattle.nv_memory.specs.declared.entry.Op.{Op}
use Rattle.nv_memory.specs.declared.entry.Op.TheVariants.{Instr, Emit, Write, Wake, Sleep}
use Rattle.nv_memory.specs.declared.entry.Entry.{Entry}
use Rattle.nv_memory.specs.AnyBoard.{cost_of}
use Rattle.nv_memory.specs.Board.{State}
use Rattle.event_arrivals.specs.Next.{IsPending}
use Rattle.event_arrivals.specs.declared.arrival.Arrival.{Arrival}
use Rattle.cn_scheduler.specs.declared.plan.Plan.{Plan}
use Rattle.cn_scheduler.specs.declared.plan.PlanRow.{PlanRow}
use Rattle.cn_scheduler.specs.InForce.{in_force}
use Rattle.cn_scheduler.specs.Point.{Point}
use Rattle.cn_scheduler.specs.Chunks.{Link, point_after, entries_of}
use Rattle.calm_stretch.specs.Moment.{gained}

-- the most units that an operation is said to draw
abbrev pub bound_of : Device → Op → ℕ
bound_of device (Instr class pc) = (cost_of device class).bound
bound_of device (Emit pc at left) = device.out.bound
bound_of device (Write at left) = device.write.bound
bound_of device Wake = device.wake.bound
bound_of device Sleep = 0

-- the operation drew no more than its bound, and was not lost where its bound was stored
pub record IsCalmEntry (device : Device) (entry : Entry) : Type 0 where
  pub drawn : entry.drawn ≤ bound_of device entry.op
  pub kept : bound_of device entry.op ≤ entry.stored → entry.lost ≡ false

-- the units that a tick gave, on a board that began at tick `origin`
abbrev pub harvest_at : ℕ → State → ℕ → ℕ
harvest_at origin final t = slice_index final.harvest (t - origin)

-- the board after all of these chunks
abbrev pub board_after : Point → List Link → State
board_after start links = (point_after start links).board

-- the units that are kept for a checkpoint
abbrev pub kept_by : PlanRow → Bool → ℕ
kept_by row dirty = if dirty then row.numbers.checkpoint else 0

-- The ticks from a decision point to tick z are calm. From the point on the timeline goes on with these chunks, and a row is in force
-- that counts on q units in every p ticks.
pub record IsCalm (device : Device) (plan : Plan) (row : PlanRow) (p q origin : ℕ) (start : Point) (links : List Link) (z : ℕ) : Type 0 where
  pub ordered : start.board.tick ≤ z
  pub within : z ≤ (board_after start links).tick
  -- they lie in one epoch
  pub here : in_force plan.rows start.board.tick ≡ Some row
  pub epoch : (t : ℕ) → start.board.tick ≤ t → t < z → in_force plan.rows t ≡ Some row
  -- what is pending at first came just then, and the reserve is stored, beside a checkpoint if one is to come
  pub fresh : (event k : ℕ) (arrival : Arrival) → IsPending plan.queue.arrivals (slice_index start.work.done) start.board.tick event k arrival →
      arrival.tick ≡ start.board.tick
  pub stored : row.numbers.reserve + kept_by row start.dirty ≤ start.board.stored
  -- each operation that begins in them is calm
  pub calm : All (λ entry. entry.tick < z → IsCalmEntry device entry) (entries_of links)
  -- p of them in a row give at least q units
  pub supplied : (t : ℕ) → start.board.tick ≤ t → t + p ≤ z →
      gained (harvest_at origin (board_after start links)) t + q ≤ gained (harvest_at origin (board_after start links)) (t + p)
