-- What the parts of a chunk leave of an engine and a board.
use Rattle.std.specs.Prelude.{◌≡◌, ℕ, ◌+◌, ◌<◌, ◌≤◌, true, false, Option, Some, None}
use Rattle.nv_memory.specs.declared.board.Answer.TheVariants as answer
use Rattle.nv_memory.specs.Board.{State}
use Rattle.checkpoint_slots.specs.Slot.{NumbersFit}
use Rattle.checkpoint_slots.specs.Image.{committed_slot}
use Rattle.checkpoint_slots.specs.Save.{IsSaved}
use Rattle.nv_log.specs.Record.{EntryFits}
use Rattle.event_arrivals.specs.Next.{IsToCome}
use Rattle.event_arrivals.specs.declared.arrival.Arrival.{Arrival}
use Rattle.event_queue.specs.declared.queue.Due.{Due}
use Rattle.cat_machine.specs.Machine.{Ended'}
use Rattle.cn_scheduler.specs.declared.plan.Plan.{Plan}
use Rattle.cn_scheduler.specs.declared.engine.Engine.{Engine}
use Rattle.cn_scheduler.specs.declared.engine.Chunk.{Chunk}
use Rattle.cn_scheduler.specs.declared.engine.Chunk.TheVariants.{Ended, Dropped, Lost, Over, Full}
use Rattle.cn_scheduler.specs.InForce.{in_force, level_at, units_of}
use Rattle.cn_scheduler.specs.Point.{Work, slot_of, work_of}
use Rattle.cn_scheduler.specs.Policy.{has_step}
use Rattle.cn_scheduler.specs.Paths.{IsHandler}
use Rattle.cn_scheduler.specs.Asked.{Asked}
use Rattle.cn_scheduler.specs.Chunks.{no_floor, ran_of, job_asks}
use Rattle.cn_scheduler.specs.Steps.{PathEnds}
use Rattle.cn_scheduler.specs.EnginePoint.{work_in, point_of, IsAtRest}

-- the engine has taken up what the image has committed
pub record IsRestored (plan : Plan) (e : Engine) (board : State) : Type 0 where
  pub work : work_in e ≡ work_of (committed_slot plan.layout board.image)
  pub clean : e.dirty ≡ false
  pub rest : IsAtRest plan.layout e
  pub numbers : NumbersFit (committed_slot plan.layout board.image)

-- the engine is what it was, but that all is committed
pub record IsCleaned (plan : Plan) (e e' : Engine) : Type 0 where
  pub work : work_in e' ≡ work_in e
  pub clean : e'.dirty ≡ false
  pub rest : IsAtRest plan.layout e'

-- a commit of the working state
abbrev pub CommitLeaves : Plan → Engine → State → Chunk → Engine → State → Type 0
CommitLeaves plan e old Ended e' new = IsSaved plan.layout (slot_of (work_in e)) old answer.Done new × IsCleaned plan e e'
CommitLeaves plan e old Dropped e' new = ⊥
CommitLeaves plan e old Lost e' new = IsSaved plan.layout (slot_of (work_in e)) old answer.Lost new × IsRestored plan e' new
CommitLeaves plan e old Over e' new = IsSaved plan.layout (slot_of (work_in e)) old answer.Over new
CommitLeaves plan e old Full e' new = ⊥

-- a job up to its own record
pub record Serves (plan : Plan) (e : Engine) (old : State) (due : Due) (outcome : Chunk) (e' : Engine) (new : State) : Type 0 where
  pub run : Ended'
  pub is_handler : IsHandler plan (work_in e) due run
  pub asked : Asked (no_floor plan) old (job_asks plan (point_of e old) due run) outcome new
  pub ended : outcome ≡ Ended → PathEnds run (e.slot.len + 1) e'.working e'.slot.len new
  pub entry : EntryFits plan.layout (ran_of plan (point_of e old) due)
  pub slot : e'.slot ≡ record e.slot { len = e'.slot.len }

-- between these ticks no arrival comes that is not done, and one row is in force
pub record IsQuiet (plan : Plan) (done : ℕ → ℕ) (now upto : ℕ) : Type 0 where
  pub arrivals : (event k : ℕ) (arrival : Arrival) → IsToCome plan.queue.arrivals done now event k arrival → upto ≤ arrival.tick
  pub rows : (t : ℕ) → now ≤ t → t < upto → in_force plan.rows t ≡ in_force plan.rows now

-- with less than this in store nothing can go on while the board is off
abbrev pub IsEnough : Plan → Work → ℕ → Option Due → ℕ → Type 0
IsEnough plan w now (Some due) enough = enough ≤ units_of plan.rows due
IsEnough plan w now None enough = has_step plan w ≡ true → enough ≤ level_at plan.rows now
