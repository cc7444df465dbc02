-- Where a replay starts, and where a run goes on.
use Rattle.std.specs.Prelude.{◌≡◌, ◌≤◌, false, None, length, replicate}
use Rattle.cat_program.specs.Checked.{Checked}
use Rattle.nv_memory.specs.declared.layout.Layout.{Layout}
use Rattle.nv_memory.specs.Layout.{size_of}
use Rattle.nv_memory.specs.Board.{State}
use Rattle.checkpoint_slots.specs.Image.{committed_slot}
use Rattle.recovery.specs.First.{IsFresh}
use Rattle.cn_scheduler.specs.declared.plan.Plan.{Plan}
use Rattle.cn_scheduler.specs.Point.{Point, Work, work_of}
use Rattle.cn_scheduler.specs.Belongs.{BelongTogether}
use Rattle.lawful_timeline.specs.Working.{IsSetUp}
use Rattle.lawful_timeline.specs.Claims.{Begins}
use Rattle.lawful_timeline.specs.Ending.{HasSaved}
use Rattle.lawful_timeline.specs.Points.{BeganBefore}

-- the working value that a program starts with
abbrev pub first_work : Checked → Layout → Work
first_work program l = record { words = program.words; posts = program.started; place = None; len = 0; steps = 0; done = replicate l.events 0 }

-- a board that is off with the first image, and the first working value
pub record StartsFresh (program : Checked) (plan : Plan) (p : Point) : Type 0 where
  pub fresh : IsFresh program plan.layout p.board.image
  pub off : p.board.on ≡ false
  pub clean : p.dirty ≡ false
  pub work_is : p.work ≡ first_work program plan.layout

-- a board as it is, with the working value that its image has committed
abbrev pub saved_point : Layout → State → Point
saved_point l board = record { board = board; work = work_of (committed_slot l board.image); dirty = false }

-- a run goes on from a board that is off, with what its image has saved
pub record StartsSaved (program : Checked) (plan : Plan) (p : Point) : Type 0 where
  pub saved : HasSaved program plan p.board
  pub off : p.board.on ≡ false
  pub clean : p.dirty ≡ false
  pub work_is : p.work ≡ work_of (committed_slot plan.layout p.board.image)

-- it begins with no more steps than ticks, and no job that began as late as now
pub record BeginsSaved (program : Checked) (plan : Plan) (p : Point) : Type 0 where
  pub begins : Begins program plan p
  pub steps : begins.moment.steps ≤ p.board.tick
  pub few : p.work.steps ≤ p.board.tick
  pub began : BeganBefore p.board.tick begins.moment.entries

pub record StartsBelong (program : Checked) (plan : Plan) : Type 0 where
  -- the first image stands for the first moment
  pub begins : (p : Point) → StartsFresh program plan p → Begins program plan p
  -- a run from the first image goes on from it as from one that was saved
  pub fresh : (p : Point) → StartsFresh program plan p → StartsSaved program plan p
  -- it has the layout's size
  pub size : (p : Point) → StartsFresh program plan p → length p.board.image ≡ size_of plan.layout
  -- a saved image stands for the moment at which its run goes on
  pub saved : (p : Point) → StartsSaved program plan p → BeginsSaved program plan p
  -- the engine's calls may come
  pub belong : (p : Point) → IsSetUp program plan → (b : Begins program plan p) → b.moment.steps ≤ p.board.tick → BelongTogether program plan p
