-- What one operation does to a board that replays a trace: the trace, the failures and the device leave one outcome.
use Rattle.std.specs.Prelude.{ℕ, ◌+◌, ◌-◌, map, List, nat_lt, if◌then◌else◌, Option, Some, None, length}
use Rattle.std.specs.Option.{is_some}
use Rattle.std.specs.List.{range_with_len}
use Rattle.harvest_trace.specs.declared.row.TraceRow.{TraceRow}
use Rattle.harvest_trace.specs.declared.failures.Failure.{Failure}
use Rattle.harvest_trace.specs.Timeline.{harvest_at, extra_at}
use Rattle.harvest_trace.specs.Failures.{first_in}
use Rattle.nv_memory.specs.declared.device.Class.{Class}
use Rattle.nv_memory.specs.declared.device.Device.{Device}
use Rattle.nv_memory.specs.declared.entry.Op.{Op}
use Rattle.nv_memory.specs.declared.entry.Op.TheVariants.{Sleep}
use Rattle.nv_memory.specs.declared.board.Answer.{Answer}
use Rattle.nv_memory.specs.declared.board.Answer.TheVariants.{Done, Lost, Over}
use Rattle.nv_memory.specs.Bytes.{repeated}
use Rattle.nv_memory.specs.Board.{State, ticks_of, left_of, leaving, after}
use Rattle.nv_memory.specs.AnyBoard.{cost_of, actual_of}
use Rattle.board_core.specs.declared.origin.ModelOrigin.{ModelOrigin}
use Rattle.board_core.specs.declared.fate.Fate.{Fate}

-- the ticks that an operation of a class takes
abbrev pub class_ticks : Device → Class → ℕ
class_ticks d kind = (cost_of d kind).ticks

-- the units that an operation takes which starts at a tick; sleep takes none
abbrev pub cost_at : ModelOrigin → ℕ → Op → ℕ
cost_at o tick Sleep = 0
cost_at o tick op = actual_of o.device op + extra_at o.trace tick

-- the first failure in the ticks of an operation; one in a tick of sleep does nothing
abbrev pub failure_in : ModelOrigin → ℕ → Op → Option Failure
failure_in o tick Sleep = None
failure_in o tick op = first_in tick (tick + ticks_of (class_ticks o.device) op) o.fails

-- what becomes of an operation for which enough is stored: the ticks pass up to and including that of a failure
abbrev pub unless_failing : ℕ → ℕ → ℕ → Option Failure → Fate
unless_failing tick cost ticks None = record { drawn = cost; ticks = ticks; torn = None }
unless_failing tick cost ticks (Some failure) = record { drawn = cost; ticks = failure.tick + 1 - tick; torn = Some failure.fill }

-- what becomes of an operation that fits in the life: where less is stored than it costs, all of it is drawn and one tick passes
abbrev pub fate_of : ModelOrigin → ℕ → ℕ → Op → Fate
fate_of o tick stored op =
    if nat_lt stored (cost_at o tick op)
    then record { drawn = stored; ticks = 1; torn = Some o.device.fill }
    else unless_failing tick (cost_at o tick op) (ticks_of (class_ticks o.device) op) (failure_in o tick op)

-- the operation, with the bytes of the fill over and over where it is lost
abbrev pub left_by : Option (List ℕ) → Op → Op
left_by None op = op
left_by (Some fill) op = leaving op (repeated fill (length (left_of op)))

-- the harvest of n ticks, from a tick on
abbrev pub harvests : List TraceRow → ℕ → ℕ → List ℕ
harvests trace tick n = map (harvest_at trace) (range_with_len tick n)

-- what stands after an operation that fits in the life, and what it answers
abbrev pub model_after : ModelOrigin → State → Op → State
model_after o s op =
    let fate = fate_of o s.tick s.stored op in
    after s (left_by fate.torn op) (is_some fate.torn) fate.drawn (harvests o.trace s.tick fate.ticks)

abbrev pub fate_answer : ModelOrigin → State → Op → Answer
fate_answer o s op = if is_some (fate_of o s.tick s.stored op).torn then Lost else Done

-- the one outcome of an operation; `Over` is looked at first
abbrev pub model_next : ModelOrigin → State → Op → State
model_next o s op = if nat_lt s.life (s.tick + ticks_of s.ticks op) then s else model_after o s op

abbrev pub model_answer : ModelOrigin → State → Op → Answer
model_answer o s op = if nat_lt s.life (s.tick + ticks_of s.ticks op) then Over else fate_answer o s op
