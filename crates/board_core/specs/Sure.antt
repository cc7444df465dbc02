-- Operations that are done for certain, and writes among them.
use Rattle.std.specs.Prelude.{◌≡◌, ℕ, ◌+◌, ◌-◌, ◌≤◌, List, Option, Some, None, replicate}
use Rattle.nv_memory.specs.declared.device.Class.{Class}
use Rattle.nv_memory.specs.declared.device.Class.TheVariants as class
use Rattle.nv_memory.specs.declared.entry.Op.{Op}
use Rattle.nv_memory.specs.declared.entry.Op.TheVariants as op
use Rattle.nv_memory.specs.AnyBoard.{cost_of}
use Rattle.nv_memory.specs.Board.{filled}
use Rattle.board_core.specs.declared.origin.ModelOrigin.{ModelOrigin}
use Rattle.board_core.specs.declared.outlook.Outlook.{Outlook}
use Rattle.board_core.specs.declared.sure.Sure.{Sure}

-- an operation of a class lies within the outlook, and enough is stored for it
pub record IsSure (o : ModelOrigin) (outlook : Outlook) (tick stored : ℕ) (kind : Class) (sure : Sure) : Type 0 where
  pub drawn : sure.drawn ≡ (cost_of o.device kind).actual + outlook.extra
  pub ticks : sure.ticks ≡ (cost_of o.device kind).ticks
  pub until : tick + sure.ticks ≤ outlook.until
  pub calm : tick + sure.ticks ≤ outlook.failure
  pub affordable : sure.drawn ≤ stored
  pub left : sure.left ≡ filled o.device.cap (stored - sure.drawn) (replicate sure.ticks outlook.harvest)

-- the write of some bytes, by the instruction at a place of the code or by none
abbrev pub write_of : Option ℕ → ℕ → List ℕ → Op
write_of (Some pc) at bytes = op.Emit pc at bytes
write_of None at bytes = op.Write at bytes

-- and its class
abbrev pub write_class : Option ℕ → Class
write_class (Some pc) = class.Out
write_class None = class.Write
