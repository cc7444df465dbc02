-- Operations that are asked of a board in turn, and how far they come.
use Rattle.std.specs.Prelude.{◌≡◌, ◌⊎◌, ℕ, ◌+◌, ◌<◌, ◌≤◌, List, [], ◌∷◌, ◌++◌, length, Option, Some, None}
use Rattle.cat_program.specs.declared.outs.LogEntry.{LogEntry}
use Rattle.cat_program.specs.declared.outs.LogEntry.TheVariants.{Out}
use Rattle.cat_program.specs.Meaning.{Output}
use Rattle.nv_memory.specs.declared.device.Class.{Class}
use Rattle.nv_memory.specs.declared.layout.Layout.{Layout}
use Rattle.nv_memory.specs.declared.entry.Op.{Op}
use Rattle.nv_memory.specs.declared.entry.Op.TheVariants.{Instr}
use Rattle.nv_memory.specs.Board.{State, IsDone, IsLost, IsOver}
use Rattle.nv_log.specs.declared.log.By.{By}
use Rattle.nv_log.specs.declared.log.By.TheVariants as by
use Rattle.nv_log.specs.Append.{append_op}
use Rattle.cn_scheduler.specs.declared.engine.Chunk.{Chunk}
use Rattle.cn_scheduler.specs.declared.engine.Chunk.TheVariants.{Ended, Dropped, Lost, Over, Full}
use Rattle.cn_scheduler.specs.Paths.{Act}

-- an operation, and the place of the log that its record goes to, if it writes one
pub record Ask : Type 0 where
  pub op : Op
  pub place : Option ℕ

abbrev pub plain : Op → Ask
plain op = record { op = op; place = None }

abbrev pub recording : Layout → ℕ → LogEntry → By → Ask
recording l place entry kind = record { op = append_op l place entry kind; place = Some place }

-- an instruction: an output is the record at a place
abbrev pub ask_with : Layout → ℕ → ℕ → Class → Option Output → Ask
ask_with l at pc class None = plain (Instr class pc)
ask_with l at pc class (Some o) = recording l at (Out o.0 o.1) (by.Instr pc)

abbrev pub ask_of : Layout → ℕ → Act → Ask
ask_of l at a = ask_with l at a.pc a.class a.out

abbrev pub listed : Option Output → List Output
listed None = []
listed (Some o) = o ∷ []

abbrev pub outs_in : List Act → List Output
outs_in [] = []
outs_in (a ∷ acts) = listed a.out ++ outs_in acts

-- instructions one after the other, each output at the next place
abbrev pub path_asks : Layout → ℕ → List Act → List Ask
path_asks l at [] = []
path_asks l at (a ∷ acts) = ask_of l at a ∷ path_asks l (at + length (listed a.out)) acts

-- how operations are asked for: the least store with which one may start at a tick, and how many records the log holds
pub record Limits : Type 0 where
  pub floor : ℕ → ℕ
  pub size : ℕ

abbrev pub IsAbove : Limits → State → Type 0
IsAbove l s = l.floor s.tick ≤ s.stored

abbrev pub HasRoom : ℕ → Option ℕ → Type 0
HasRoom size None = Unit {0}
HasRoom size (Some place) = place < size

-- An operation at which a chunk stops, and why. First the store is looked at, then the log, and then the board is asked.
abbrev pub Stops : Limits → State → Ask → Chunk → State → Type 0
Stops l old a Ended new = ⊥
Stops l old a Dropped new = (old.stored < l.floor old.tick) × (new ≡ old)
Stops l old a Full new = IsAbove l old × (¬ (HasRoom l.size a.place)) × (new ≡ old)
Stops l old a Lost new = IsAbove l old × HasRoom l.size a.place × IsLost old a.op new
Stops l old a Over new = IsAbove l old × HasRoom l.size a.place × IsOver old a.op new

-- an operation that is done, so that the chunk goes on
pub record Goes (l : Limits) (old : State) (a : Ask) (new : State) : Type 0 where
  pub above : IsAbove l old
  pub room : HasRoom l.size a.place
  pub done : IsDone old a.op new

-- these operations were asked for in turn, each done but the last, at which they stopped
abbrev pub Asked : Limits → State → List Ask → Chunk → State → Type 0
Asked l old [] Ended new = new ≡ old
Asked l old [] Dropped new = ⊥
Asked l old [] Lost new = ⊥
Asked l old [] Over new = ⊥
Asked l old [] Full new = ⊥
Asked l old (a ∷ asks) outcome new = Stops l old a outcome new ⊎ ((mid : State) × Goes l old a mid × Asked l mid asks outcome new)
