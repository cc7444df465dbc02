-- The instructions of a section or a handler in their order.
use Rattle.std.specs.Prelude.{◌≡◌, ℕ, ℤ, Bool, true, false, List, [], ◌∷◌, ◌++◌, Option, Some, None, slice_get}
use Rattle.std.specs.Option.{option_map_or}
use Rattle.cat_program.specs.Meaning.{Output}
use Rattle.cat_machine.specs.declared.instr.Instr.{Instr}
use Rattle.cat_machine.specs.declared.instr.Instr.TheVariants as i
use Rattle.cat_machine.specs.declared.instr.Mode.TheVariants.{Task, Handler}
use Rattle.cat_machine.specs.declared.instr.Did.{Did}
use Rattle.cat_machine.specs.declared.instr.Did.TheVariants.{Emitted}
use Rattle.cat_machine.specs.ClassOf.{class_of}
use Rattle.cat_machine.specs.CodeValue.{CodeValue, EntryAt}
use Rattle.cat_machine.specs.Machine.{Ended', until, entered}
use Rattle.nv_memory.specs.declared.device.Class.{Class}
use Rattle.nv_memory.specs.declared.device.Class.TheVariants.{Basic}
use Rattle.event_queue.specs.declared.queue.Due.{Due}
use Rattle.cn_scheduler.specs.declared.plan.Plan.{Plan}
use Rattle.cn_scheduler.specs.InForce.{version_of}
use Rattle.cn_scheduler.specs.Point.{Work, held_of}

abbrev pub class_at : CodeValue → ℕ → Class
class_at code pc = option_map_or class_of (slice_get code.instrs pc) Basic

-- an instruction of a path: its place and class, and what it puts out
pub record Act : Type 0 where
  pub pc : ℕ
  pub class : Class
  pub out : Option Output

abbrev pub is_out : Instr → Bool
is_out (i.Out channel) = true
is_out _ = false

abbrev pub puts_out : CodeValue → ℕ → Bool
puts_out code pc = option_map_or is_out (slice_get code.instrs pc) false

-- of the outputs that are to come, that of an instruction, and those after it
abbrev pub own_out : Bool → List Output → Option Output
own_out true (o ∷ outs) = Some o
own_out true [] = None
own_out false outs = None

abbrev pub outs_after : Bool → List Output → List Output
outs_after true (o ∷ outs) = outs
outs_after true [] = []
outs_after false outs = outs

-- the instructions of a path with these outputs in turn
abbrev pub acts_of : CodeValue → List ℕ → List Output → List Act
acts_of code [] outs = []
acts_of code (pc ∷ path) outs =
    record { pc = pc; class = class_at code pc; out = own_out (puts_out code pc) outs } ∷ acts_of code path (outs_after (puts_out code pc) outs)

-- what the last instruction of a run puts out
abbrev pub last_outs : Did → List Output
last_outs (Emitted channel value) = (channel, value) ∷ []
last_outs _ = []

abbrev pub run_outs : Ended' → List Output
run_outs run = run.outs ++ last_outs run.did

abbrev pub run_acts : CodeValue → Ended' → List Act
run_acts code run = acts_of code run.path (run_outs run)

-- the section that begins at a working value, up to the first instruction that acts: no instruction of a task reads the payload
pub record IsSection (plan : Plan) (w : Work) (run : Ended') : Type 0 where
  pub payload : ℤ
  pub ends : until 1000000 Task plan.code (held_of w payload) ≡ Some run

-- the whole handler of an arrival, in its version
pub record IsHandler (plan : Plan) (w : Work) (due : Due) (run : Ended') : Type 0 where
  pub payload : ℤ
  pub entry : ℕ
  pub there : EntryAt plan.code due.event (version_of plan.rows due) entry
  pub ends : until 1000000 Handler plan.code (entered (held_of w payload) entry due.payload) ≡ Some run
