-- What has to be true for a plan, an engine and a board to belong together.
use Rattle.std.specs.Prelude.{◌≡◌, ℕ, ℤ, ◌<◌, ◌≤◌, true, false, List, length, map, All, Option, Some, slice_get, slice_index}
use Rattle.cat_program.specs.declared.headers.Event.{Event}
use Rattle.cat_program.specs.declared.outs.LogEntry.{LogEntry}
use Rattle.cat_program.specs.Checked.{Checked, HasVersion}
use Rattle.cat_program.specs.Body.{Body}
use Rattle.cat_machine.specs.Fits.{Fits}
use Rattle.nv_memory.specs.declared.layout.Layout.{Layout}
use Rattle.nv_memory.specs.Layout.{size_of}
use Rattle.cat_program.specs.Resting.{RestsAt}
use Rattle.recovery.specs.Committed.{Committed, IsCommitted, IsRecorded}
use Rattle.cn_scheduler.specs.declared.plan.Plan.{Plan}
use Rattle.cn_scheduler.specs.declared.plan.PlanRow.{PlanRow}
use Rattle.cn_scheduler.specs.Point.{Work, Point, held_of, slot_of, work_of}

-- a row that fits a program: one version of each event that there is, and one load
pub record IsRowOf (program : Checked) (row : PlanRow) : Type 0 where
  pub versions : length row.versions ≡ length program.events
  pub loads : length row.loads ≡ length program.events
  pub there : (event : ℕ) → event < length program.events → HasVersion program event (slice_index row.versions event)
  pub reserve : row.numbers.reserve ≤ 1000000
  pub checkpoint : row.numbers.checkpoint ≤ 1000000
  pub section : row.numbers.section ≤ 1000000
  pub level : row.numbers.level ≤ 1000000
  pub units : All (λ load. load.units ≤ 1000000) row.loads

-- a layout with the counts of a program
pub record IsLayoutOf (program : Checked) (l : Layout) : Type 0 where
  pub words : l.words ≡ length program.words
  pub tasks : l.tasks ≡ length program.tasks
  pub events : l.events ≡ length program.events

pub record IsPlanOf (program : Checked) (plan : Plan) : Type 0 where
  pub layout : IsLayoutOf program plan.layout
  -- some row is in force at every tick
  pub first : (row : PlanRow) × (slice_get plan.rows 0 ≡ Some row) × (row.from ≡ 0)
  pub rows : All (IsRowOf program) plan.rows
  pub queue : length plan.queue.arrivals.timings ≡ length program.events
  pub deadlines : plan.queue.deadlines ≡ map (λ (header : Event). header.deadline) program.headers

-- what a commit of the working value would commit
pub record IsReady (program : Checked) (plan : Plan) (image : List ℕ) (w : Work) : Type 0 where
  pub current : Option Body
  pub entries : List LogEntry
  pub rests : RestsAt program w.place current
  pub recorded : IsRecorded plan.layout program image (record { slot = slot_of w; current = current; entries = entries })
  pub len_fits : w.len ≤ plan.layout.log

pub record BelongTogether (program : Checked) (plan : Plan) (p : Point) : Type 0 where
  pub plan_is : IsPlanOf program plan
  pub image : size_of plan.layout ≤ length p.board.image
  pub committed : Committed
  pub is_committed : IsCommitted plan.layout program p.board.image committed
  pub committed_steps : committed.slot.steps ≤ p.board.tick
  pub fits : (payload : ℤ) → Fits program plan.code (held_of p.work payload)
  pub events : length p.work.done ≡ length program.events
  pub steps : p.work.steps ≤ p.board.tick
  pub len : committed.slot.len ≤ p.work.len
  pub on : p.dirty ≡ true → p.board.on ≡ true
  pub clean : p.dirty ≡ false → p.work ≡ work_of committed.slot
  pub ready : IsReady program plan p.board.image p.work
