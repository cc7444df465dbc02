-- What is claimed of every lawful timeline.
use Rattle.std.specs.Prelude.{◌≡◌, ◌≢◌, ℕ, ◌≤◌, false, List, [], ◌∷◌, ◌++◌, length, take}
use Rattle.cat_program.specs.Checked.{Checked}
use Rattle.nv_memory.specs.declared.entry.Entry.{Entry}
use Rattle.nv_memory.specs.Layout.{size_of}
use Rattle.nv_memory.specs.Board.{State, image_by}
use Rattle.checkpoint_slots.specs.Image.{committed_slot}
use Rattle.reference_run.specs.Reference.{Moment}
use Rattle.logged_runs.specs.Own.{IsOwn, IsEarlier, AreServedOnce}
use Rattle.logged_runs.specs.Laws.{last_start_of}
use Rattle.image_meaning.specs.Standing.{StandsFor}
use Rattle.cn_scheduler.specs.declared.plan.Plan.{Plan}
use Rattle.cn_scheduler.specs.declared.choice.Choice.TheVariants.{Section}
use Rattle.cn_scheduler.specs.declared.engine.Chunk.{Chunk}
use Rattle.cn_scheduler.specs.declared.engine.Chunk.TheVariants.{Ended, Lost, Over, Full}
use Rattle.cn_scheduler.specs.declared.engine.End.{End}
use Rattle.cn_scheduler.specs.declared.engine.End.TheVariants.{TraceEnded, LogFull}
use Rattle.cn_scheduler.specs.Point.{Point, work_of}
use Rattle.cn_scheduler.specs.Chunks.{Link, IsLawful, entries_of, is_last, point_after, task_limits}
use Rattle.lawful_timeline.specs.Working.{IsSetUp, WorksAs, setting_of}

-- a board that is off, whose image stands for a run of its own that handled nothing later than now
pub record Begins (program : Checked) (plan : Plan) (p : Point) : Type 0 where
  pub moment : Moment
  pub stands : StandsFor plan.layout program p.board.image moment
  pub own : IsOwn (setting_of program plan) moment
  pub start : last_start_of moment.entries ≤ p.board.tick
  pub large : size_of plan.layout ≤ length p.board.image
  pub off : p.board.on ≡ false
  pub clean : p.dirty ≡ false
  pub work_is : p.work ≡ work_of (committed_slot plan.layout p.board.image)

-- so it is at each decision point
abbrev pub EachPoint : (Point → Type 0) → Point → List Link → Type 0
EachPoint P p [] = P p
EachPoint P p (c ∷ cs) = P p × (is_last c.outcome ≡ false → EachPoint P c.after cs)

-- The working value is at a moment of a run, which has begun no job later than now, and the image stands for that moment where
-- nothing is left to save.
pub record IsAtWork (program : Checked) (plan : Plan) (q : Point) : Type 0 where
  pub moment : Moment
  pub works : WorksAs program plan q.board.image q.work moment
  pub start : last_start_of moment.entries ≤ q.board.tick
  pub saved : q.dirty ≡ false → StandsFor plan.layout program q.board.image moment

-- each entry began with enough stored
abbrev pub AreAbove : (ℕ → ℕ) → List Entry → Type 0
AreAbove floor [] = Unit {0}
AreAbove floor (entry ∷ entries) = (floor entry.tick ≤ entry.stored) × AreAbove floor entries

-- no instruction of a task begins below the reserve and a checkpoint
abbrev pub KeepsFloor : Plan → List Link → Type 0
KeepsFloor plan [] = Unit {0}
KeepsFloor plan (c ∷ cs) = (c.choice ≡ Section → AreAbove (task_limits plan).floor c.entries) × KeepsFloor plan cs

-- where nothing is lost, the step count doesn't fall
abbrev pub NeverFalls : Point → List Link → Type 0
NeverFalls p [] = Unit {0}
NeverFalls p (c ∷ cs) = (is_last c.outcome ≡ false → c.outcome ≢ Lost → p.work.steps ≤ c.after.work.steps) × NeverFalls c.after cs

-- the image after the first entries
abbrev pub image_at : Point → List Link → ℕ → List ℕ
image_at p cs i = image_by (take i (entries_of cs)) p.board.image

-- what holds throughout a timeline
pub record HoldsThroughout (program : Checked) (plan : Plan) (p : Point) (cs : List Link) : Type 0 where
  -- the entries are all of the board's, and leave its image
  pub timeline : (point_after p cs).board.timeline ≡ p.board.timeline ++ entries_of cs
  pub image : (point_after p cs).board.image ≡ image_by (entries_of cs) p.board.image
  -- each image stands for the reference run of its own entries and steps, in which no arrival was handled twice
  pub images : (i : ℕ) → i ≤ length (entries_of cs)
      → (m : Moment) × StandsFor plan.layout program (image_at p cs i) m × IsOwn (setting_of program plan) m × AreServedOnce (setting_of program plan) m.entries
  -- it is an earlier moment of the run that each later image stands for
  pub earlier : (i j : ℕ) (m n : Moment) → i ≤ j → j ≤ length (entries_of cs) → StandsFor plan.layout program (image_at p cs i) m
      → StandsFor plan.layout program (image_at p cs j) n → IsEarlier (setting_of program plan) m n
  pub points : EachPoint (IsAtWork program plan) p cs
  pub floor : KeepsFloor plan cs
  pub steps : NeverFalls p cs

-- the outcome of the last chunk
abbrev pub last_outcome : List Link → Chunk
last_outcome [] = Ended
last_outcome (c ∷ []) = c.outcome
last_outcome (c ∷ d ∷ cs) = last_outcome (d ∷ cs)

abbrev pub EndsAs : End → Chunk → Type 0
EndsAs TraceEnded outcome = outcome ≡ Over
EndsAs LogFull outcome = outcome ≡ Full

-- a lawful timeline from a point on to a board, in which all that is claimed holds
pub record IsReplayed (program : Checked) (plan : Plan) (p : Point) (end : End) (board : State) : Type 0 where
  pub chunks : List Link
  pub lawful : IsLawful plan p chunks
  pub leads : (point_after p chunks).board ≡ board
  pub ends : EndsAs end (last_outcome chunks)
  pub holds : HoldsThroughout program plan p chunks

-- what holds of every lawful timeline of a plan
pub record LawfulTimelinesHold (program : Checked) (plan : Plan) : Type 0 where
  pub holds : (p : Point) (cs : List Link) → IsSetUp program plan → Begins program plan p → IsLawful plan p cs → HoldsThroughout program plan p cs
