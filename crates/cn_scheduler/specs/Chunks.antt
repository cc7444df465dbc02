-- The chunks of a timeline: what each asks of the board, and what it leaves.
use Rattle.std.specs.Prelude.{◌≡◌, ◌≢◌, ℕ, ◌+◌, Bool, true, false, if◌then◌else◌, List, [], ◌∷◌, ◌++◌, length, map, slice_index, slice_set, FitsSigned}
use Rattle.std.specs.Int.{w32}
use Rattle.cat_program.specs.Meaning.{Output}
use Rattle.cat_program.specs.declared.outs.LogEntry.{LogEntry}
use Rattle.cat_program.specs.declared.outs.LogEntry.TheVariants.{Ran}
use Rattle.cat_machine.specs.Machine.{Ended'}
use Rattle.nv_memory.specs.declared.entry.Op.TheVariants as op
use Rattle.nv_memory.specs.declared.entry.Entry.{Entry}
use Rattle.nv_memory.specs.Board.{State}
use Rattle.nv_log.specs.Record.{EntryFits}
use Rattle.nv_log.specs.declared.log.By.TheVariants as by
use Rattle.checkpoint_slots.specs.Image.{committed_slot}
use Rattle.checkpoint_slots.specs.Commit.{commit_writes}
use Rattle.event_queue.specs.declared.queue.Due.{Due}
use Rattle.cn_scheduler.specs.declared.plan.Plan.{Plan}
use Rattle.cn_scheduler.specs.declared.choice.Choice.{Choice}
use Rattle.cn_scheduler.specs.declared.choice.Choice.TheVariants.{Job, Section, Checkpoint, Wake, Sleep}
use Rattle.cn_scheduler.specs.declared.engine.Chunk.{Chunk}
use Rattle.cn_scheduler.specs.declared.engine.Chunk.TheVariants.{Ended, Dropped, Lost, Over, Full}
use Rattle.cn_scheduler.specs.InForce.{floor_at, version_of}
use Rattle.cn_scheduler.specs.Point.{Work, Point, FitsSlot, slot_of, work_of}
use Rattle.cn_scheduler.specs.Policy.{Chooses}
use Rattle.cn_scheduler.specs.Paths.{run_outs, run_acts, IsSection, IsHandler}
use Rattle.cn_scheduler.specs.Asked.{Ask, plain, recording, path_asks, Limits, Asked}

-- tasks leave the reserve and a checkpoint alone
abbrev pub task_limits : Plan → Limits
task_limits plan = record { floor = floor_at plan.rows; size = plan.layout.log }

-- no store is too low
abbrev pub no_floor : Plan → Limits
no_floor plan = record { floor = λ tick. 0; size = plan.layout.log }

-- ---- what is left

abbrev pub after_section : Work → Ended' → Work
after_section w run =
    record {
      words = run.after.words;
      posts = run.after.posts;
      place = run.after.place;
      len = w.len + length (run_outs run);
      steps = w.steps + 1;
      done = w.done;
    }

-- the handler's outputs and its own record have joined the log, and one arrival more of the event is done
abbrev pub after_job : Work → Due → Ended' → Work
after_job w due run =
    record {
      words = run.after.words;
      posts = run.after.posts;
      place = run.after.place;
      len = w.len + length (run_outs run) + 1;
      steps = w.steps;
      done = slice_set w.done due.event (slice_index w.done due.event + 1);
    }

-- the working value is the committed one
pub record IsBack (plan : Plan) (q : Point) : Type 0 where
  pub work_is : q.work ≡ work_of (committed_slot plan.layout q.board.image)
  pub clean : q.dirty ≡ false

-- What a chunk leaves by its outcome, where it would leave this working value at its end. After the last chunk of a timeline nothing
-- is said but of the board.
abbrev pub Leaves : Plan → Point → Work → Bool → Chunk → Point → Type 0
Leaves plan p next dirty Ended q = (q.work ≡ next) × (q.dirty ≡ dirty)
Leaves plan p next dirty Dropped q = (q.work ≡ p.work) × (q.dirty ≡ p.dirty)
Leaves plan p next dirty Lost q = IsBack plan q
Leaves plan p next dirty Over q = Unit {0}
Leaves plan p next dirty Full q = Unit {0}

-- ---- each kind of chunk

-- outputs are numbers of 32 bits
abbrev pub AreFit : List Output → Type 0
AreFit [] = Unit {0}
AreFit (o ∷ outs) = FitsSigned w32 o.1 × AreFit outs

-- the instructions of the tasks up to the first that acts
pub record SectionDoes (plan : Plan) (p : Point) (outcome : Chunk) (q : Point) : Type 0 where
  pub run : Ended'
  pub is_section : IsSection plan p.work run
  pub asked : Asked (task_limits plan) p.board (path_asks plan.layout p.work.len (run_acts plan.code run)) outcome q.board
  pub leaves : Leaves plan p (after_section p.work run) true outcome q
  pub fits : outcome ≡ Ended → AreFit (run_outs run)

abbrev pub commit_asks : Plan → Work → List ℕ → List Ask
commit_asks plan w image = map plain (commit_writes plan.layout (slot_of w) image)

-- the whole commit of a working value, as the image stands where it begins
abbrev pub Commits : Plan → Work → State → Chunk → State → Type 0
Commits plan w old outcome new = Asked (no_floor plan) old (commit_asks plan w old.image) outcome new

abbrev pub wake_asks : Bool → List Ask
wake_asks on = if on then [] else plain op.Wake ∷ []

-- the record of a job that starts at a decision point
abbrev pub ran_of : Plan → Point → Due → LogEntry
ran_of plan p due = Ran due.event (version_of plan.rows due) p.work.steps p.board.tick due.index

-- a job up to its own record: a wake where the board is off, the handler, and the record behind its outputs
abbrev pub job_asks : Plan → Point → Due → Ended' → List Ask
job_asks plan p due run =
    wake_asks p.board.on ++ path_asks plan.layout p.work.len (run_acts plan.code run)
    ++ recording plan.layout (p.work.len + length (run_outs run)) (ran_of plan p due) by.Write ∷ []

-- these and then the commit, or a stop before it
pub data JobAsks (plan : Plan) (p : Point) (due : Due) (run : Ended') (outcome : Chunk) (new : State) : Type 0 where
  Early : outcome ≢ Ended → Asked (no_floor plan) p.board (job_asks plan p due run) outcome new → JobAsks plan p due run outcome new
  Late : (mid : State) → Asked (no_floor plan) p.board (job_asks plan p due run) Ended mid → AreFit (run_outs run) → EntryFits plan.layout (ran_of plan p due)
      → FitsSlot plan.layout (after_job p.work due run) → Commits plan (after_job p.work due run) mid outcome new → JobAsks plan p due run outcome new

pub record JobDoes (plan : Plan) (p : Point) (due : Due) (outcome : Chunk) (q : Point) : Type 0 where
  pub run : Ended'
  pub is_handler : IsHandler plan p.work due run
  pub asks : JobAsks plan p due run outcome q.board
  pub leaves : Leaves plan p (after_job p.work due run) false outcome q

pub record CheckpointDoes (plan : Plan) (p : Point) (outcome : Chunk) (q : Point) : Type 0 where
  pub asked : Commits plan p.work p.board outcome q.board
  pub leaves : Leaves plan p p.work false outcome q
  pub fits : FitsSlot plan.layout p.work

pub record WakeDoes (plan : Plan) (p : Point) (outcome : Chunk) (q : Point) : Type 0 where
  pub asked : Asked (no_floor plan) p.board (plain op.Wake ∷ []) outcome q.board
  pub leaves : Leaves plan p p.work p.dirty outcome q

-- one tick of sleep, after which the working value is the committed one
pub record SleepDoes (plan : Plan) (p : Point) (outcome : Chunk) (q : Point) : Type 0 where
  pub asked : Asked (no_floor plan) p.board (plain op.Sleep ∷ []) outcome q.board
  pub leaves : Leaves plan p (work_of (committed_slot plan.layout q.board.image)) false outcome q

abbrev pub Does : Plan → Point → Choice → Chunk → Point → Type 0
Does plan p Section outcome q = SectionDoes plan p outcome q
Does plan p (Job due) outcome q = JobDoes plan p due outcome q
Does plan p Checkpoint outcome q = CheckpointDoes plan p outcome q
Does plan p Wake outcome q = WakeDoes plan p outcome q
Does plan p Sleep outcome q = SleepDoes plan p outcome q

-- ---- lawful timelines

-- a chunk: what was chosen, what came of it, its entries, and the decision point behind it
pub record Link : Type 0 where
  pub choice : Choice
  pub outcome : Chunk
  pub entries : List Entry
  pub after : Point

-- the chunk that the policy names at a decision point
pub record IsChunk (plan : Plan) (p : Point) (c : Link) : Type 0 where
  pub chosen : Chooses plan p c.choice
  pub does : Does plan p c.choice c.outcome c.after
  pub timeline : c.after.board.timeline ≡ p.board.timeline ++ c.entries

-- no more chunks come behind it
abbrev pub is_last : Chunk → Bool
is_last Ended = false
is_last Dropped = false
is_last Lost = false
is_last Over = true
is_last Full = true

-- each chunk is the one that the policy names at its decision point
abbrev pub IsLawful : Plan → Point → List Link → Type 0
IsLawful plan p [] = Unit {0}
IsLawful plan p (c ∷ cs) = IsChunk plan p c × (is_last c.outcome ≡ true → cs ≡ []) × IsLawful plan c.after cs

-- where the chunks lead
abbrev pub point_after : Point → List Link → Point
point_after p [] = p
point_after p (c ∷ cs) = point_after c.after cs

-- all entries in order
abbrev pub entries_of : List Link → List Entry
entries_of [] = []
entries_of (c ∷ cs) = c.entries ++ entries_of cs

-- one tick of sleep after the other, each as the policy names it, up to the one that came out so
pub data SleepsOn (plan : Plan) : Point → Chunk → Point → Type 0 where
  Last_tick : (p q : Point) (outcome : Chunk) → Chooses plan p Sleep → SleepDoes plan p outcome q → SleepsOn plan p outcome q
  Further : (p mid q : Point) (outcome : Chunk) → Chooses plan p Sleep → SleepDoes plan p Ended mid → SleepsOn plan mid outcome q → SleepsOn plan p outcome q
