-- What single operations and instructions leave, as the parts of the code say it.
use Rattle.std.specs.Prelude.{◌≡◌, ℕ, ◌+◌, true, length, Option, Some, None, FitsSigned, All}
use Rattle.std.specs.Int.{w32}
use Rattle.cat_program.specs.Meaning.{Output}
use Rattle.cat_machine.specs.declared.instr.Did.{Did}
use Rattle.cat_machine.specs.declared.instr.Did.TheVariants as did
use Rattle.cat_machine.specs.declared.instr.Mode.{Mode}
use Rattle.cat_machine.specs.declared.instr.Mode.TheVariants.{Task, Handler}
use Rattle.cat_machine.specs.Held.{Held}
use Rattle.cat_machine.specs.Machine.{Ended', Unacted}
use Rattle.nv_memory.specs.declared.board.Answer.{Answer}
use Rattle.nv_memory.specs.declared.board.Answer.TheVariants as answer
use Rattle.nv_memory.specs.Board.{State, IsDone, IsLost, IsOver}
use Rattle.cn_scheduler.specs.declared.plan.Plan.{Plan}
use Rattle.cn_scheduler.specs.declared.engine.Chunk.{Chunk}
use Rattle.cn_scheduler.specs.declared.engine.Chunk.TheVariants.{Ended, Dropped, Lost, Over, Full}
use Rattle.cn_scheduler.specs.Paths.{run_acts, run_outs}
use Rattle.cn_scheduler.specs.Asked.{Ask, HasRoom, Limits, path_asks, Asked}
use Rattle.cn_scheduler.specs.Chunks.{task_limits, no_floor}

abbrev pub chunk_of : Answer → Chunk
chunk_of answer.Done = Ended
chunk_of answer.Lost = Lost
chunk_of answer.Over = Over

-- what an instruction puts out
abbrev pub out_of : Did → Option Output
out_of (did.Emitted channel value) = Some (channel, value)
out_of _ = None

-- an operation that was asked for: done, lost, not fitting in the life, or without room in the log
abbrev pub AskedOnce : ℕ → State → Ask → Chunk → State → Type 0
AskedOnce size old a Ended new = HasRoom size a.place × IsDone old a.op new
AskedOnce size old a Dropped new = ⊥
AskedOnce size old a Lost new = HasRoom size a.place × IsLost old a.op new
AskedOnce size old a Over new = HasRoom size a.place × IsOver old a.op new
AskedOnce size old a Full new = (¬ (HasRoom size a.place)) × (new ≡ old)

-- handlers have no floor
abbrev pub limits_of : Plan → Mode → Limits
limits_of plan Task = task_limits plan
limits_of plan Handler = no_floor plan

-- a whole path was done
pub record PathEnds (run : Ended') (len : ℕ) (held : Held) (len' : ℕ) (new : State) : Type 0 where
  pub held_is : held ≡ run.after
  pub len_is : len' ≡ len + length (run_outs run)
  pub on : new.on ≡ true
  pub fits : All (λ o. FitsSigned w32 o.1) (run_outs run)

-- how far a section or a handler came, with what the machine and the log's length are then
pub record PathLeaves (plan : Plan) (mode : Mode) (run : Ended') (start : Held) (len : ℕ) (old : State) (outcome : Chunk) (held : Held) (len' : ℕ) (new : State) : Type 0 where
  pub asked : Asked (limits_of plan mode) old (path_asks plan.layout len (run_acts plan.code run)) outcome new
  pub ended : outcome ≡ Ended → PathEnds run len held len' new
  pub dropped : outcome ≡ Dropped → (mode ≡ Task) × Unacted plan.code start held × (len' ≡ len) × (new.on ≡ true)
