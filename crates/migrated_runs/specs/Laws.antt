-- What a stretch of moves leaves of a run.
use Rattle.std.specs.Prelude.{◌≡◌, ◌≤◌, ℕ, Bool, true, false, List, ◌++◌, length, take}
use Rattle.cat_program.specs.Checked.{Checked}
use Rattle.nv_memory.specs.declared.layout.Layout.{Layout}
use Rattle.nv_memory.specs.declared.entry.Entry.{Entry}
use Rattle.nv_memory.specs.Board.{State, image_by}
use Rattle.nv_memory.specs.Layout.{size_of}
use Rattle.nv_log.specs.Record.{most_start}
use Rattle.migration.specs.Moves.{AreOfMove, IsInOld, layout_in}
use Rattle.migration.specs.Stretch.{Moves}
use Rattle.reference_run.specs.Reference.{Moment}
use Rattle.image_meaning.specs.Standing.{StandsFor}
use Rattle.cn_scheduler.specs.declared.plan.Plan.{Plan}
use Rattle.lawful_timeline.specs.Ending.{HasSaved}

-- a plan whose image stands in another layout
abbrev pub plan_in : Layout → Plan → Plan
plan_in l plan = record plan { layout = l }

-- the entries that lead from a board to another one, after each of which the image stands for a moment, by its format byte
pub record TellsMoment (old new : Layout) (program : Checked) (m : Moment) (s t : State) : Type 0 where
  pub entries : List Entry
  pub timeline : t.timeline ≡ s.timeline ++ entries
  pub image : t.image ≡ image_by entries s.image
  pub stands : (n : ℕ) → n ≤ length entries → StandsFor (layout_in old new (image_by (take n entries) s.image)) program (image_by (take n entries) s.image) m

-- a board whose image of the first format can be moved to the layout of a plan: it has saved a run of the plan, its memory has room, and
-- its tick is one that a record can tell
pub record CanBeMoved (program : Checked) (plan : Plan) (old : Layout) (s : State) : Type 0 where
  pub layouts : AreOfMove old plan.layout
  pub is_old : IsInOld s.image
  pub saved : HasSaved program (plan_in old plan) s
  pub size : size_of plan.layout ≤ length s.image
  pub tick : s.tick ≤ most_start plan.layout.format

pub record MovedRunsGoOn (program : Checked) (plan : Plan) : Type 0 where
  -- no entry on the way changes what is told
  pub same : (old : Layout) (enough : ℕ) (s t : State) (moved : Bool) → (can : CanBeMoved program plan old s) → Moves old plan.layout enough s moved t
      → TellsMoment old plan.layout program can.saved.moment s t
  -- a run of the plan goes on from the moved image
  pub moved : (old : Layout) (enough : ℕ) (s t : State) → CanBeMoved program plan old s → Moves old plan.layout enough s true t → HasSaved program plan t
  -- and what was saved still is where the life has ended before
  pub ended : (old : Layout) (enough : ℕ) (s t : State) → CanBeMoved program plan old s → Moves old plan.layout enough s false t → HasSaved program (plan_in old plan) t
