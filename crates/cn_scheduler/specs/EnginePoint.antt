-- The decision point of an engine and a board.
use Rattle.std.specs.Prelude.{◌≡◌, ◌≢◌, [], None, false, replicate}
use Rattle.cat_program.specs.Checked.{Checked}
use Rattle.cat_machine.specs.Code.{code_of}
use Rattle.cat_machine.specs.Fits.{Fits}
use Rattle.nv_memory.specs.Board.{State}
use Rattle.nv_memory.specs.declared.layout.Layout.{Layout}
use Rattle.checkpoint_slots.specs.Slot.{IsMadeFor}
use Rattle.cn_scheduler.specs.declared.engine.Engine.{Engine}
use Rattle.cn_scheduler.specs.declared.engine.Chunk.{Chunk}
use Rattle.cn_scheduler.specs.declared.engine.Chunk.TheVariants.{Over, Full}
use Rattle.cn_scheduler.specs.declared.plan.Plan.{Plan}
use Rattle.cn_scheduler.specs.Point.{Work, Point}
use Rattle.cn_scheduler.specs.Belongs.{BelongTogether}

abbrev pub work_in : Engine → Work
work_in e =
    record {
      words = e.working.words;
      posts = e.working.posts;
      place = e.working.place;
      len = e.slot.len;
      steps = e.slot.steps;
      done = e.slot.done;
    }

abbrev pub point_of : Engine → State → Point
point_of e board = record { board = board; work = work_in e; dirty = e.dirty }

-- the machine stands between two sections, and the slot is one of the layout
pub record IsAtRest (l : Layout) (e : Engine) : Type 0 where
  pub free : e.working.kept ≡ None
  pub empty : e.working.stack ≡ []
  pub made : IsMadeFor l e.slot

-- the first state of a program, with no records, no steps and nothing done
pub record IsFirst (program : Checked) (l : Layout) (e : Engine) : Type 0 where
  pub rest : IsAtRest l e
  pub work : work_in e ≡ record { words = program.words; posts = program.started; place = None; len = 0; steps = 0; done = replicate l.events 0 }
  pub clean : e.dirty ≡ false
  pub fits : Fits program (code_of program) e.working

-- The next call may come: all still belongs together. After `Over` and `Full` no call may.
pub record IsKept (plan : Plan) (e : Engine) (old : State) (outcome : Chunk) (e' : Engine) (new : State) : Type 0 where
  pub rest : outcome ≢ Over → outcome ≢ Full → IsAtRest plan.layout e'
  pub belongs : outcome ≢ Over → outcome ≢ Full → (program : Checked) → BelongTogether program plan (point_of e old) → BelongTogether program plan (point_of e' new)
