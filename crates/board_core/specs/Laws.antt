-- What the crates above have of a board that follows a trace: they run on any board, and need only the state in which the run ended.
use Rattle.std.specs.Prelude.{◌≡◌, ℕ, List, ◌++◌}
use Rattle.nv_memory.specs.declared.device.Class.{Class}
use Rattle.nv_memory.specs.AnyBoard.{cost_of}
use Rattle.nv_memory.specs.declared.entry.Entry.{Entry}
use Rattle.nv_memory.specs.declared.entry.Op.{Op}
use Rattle.nv_memory.specs.declared.board.Answer.{Answer}
use Rattle.nv_memory.specs.Board.{State, Steps}
use Rattle.board_core.specs.declared.origin.ModelOrigin.{ModelOrigin}
use Rattle.board_core.specs.Reached.{IsReached, first_state}
use Rattle.board_core.specs.Rules.{model_answer, model_next}

-- a later state keeps what was told and what was harvested
pub record IsLater (s t : State) : Type 0 where
  pub entries : List Entry
  pub timeline : t.timeline ≡ s.timeline ++ entries
  pub passed : List ℕ
  pub harvest : t.harvest ≡ s.harvest ++ passed

-- a step of a run had the outcome of the rules
pub record IsRuled (o : ModelOrigin) (s : State) (op : Op) (answer : Answer) (t : State) : Type 0 where
  pub answer_is : answer ≡ model_answer o s op
  pub next_is : t ≡ model_next o s op
  pub reached : IsReached o t

pub record RulesDecide (o : ModelOrigin) : Type 0 where
  pub first : IsReached o (first_state o)
  -- each step of a run, from a state that was reached, is the one of the rules, if the run ends in a state that was reached
  pub step : (s t last : State) (op : Op) (answer : Answer) → IsReached o s → Steps s op answer t → IsLater t last → IsReached o last → IsRuled o s op answer t
  -- there is one state with these entries
  pub one : (s t : State) → IsReached o s → IsReached o t → s.timeline ≡ t.timeline → s ≡ t

-- two origins say the same: by trace and failures, and by the numbers and the fill of their devices
pub record SaySame (a b : ModelOrigin) : Type 0 where
  pub trace : a.trace ≡ b.trace
  pub fails : a.fails ≡ b.fails
  pub ticks : (kind : Class) → (cost_of a.device kind).ticks ≡ (cost_of b.device kind).ticks
  pub units : (kind : Class) → (cost_of a.device kind).actual ≡ (cost_of b.device kind).actual
  pub cap : a.device.cap ≡ b.device.cap
  pub fill : a.device.fill ≡ b.device.fill
  pub tick : a.tick ≡ b.tick
  pub stored : a.stored ≡ b.stored
  pub image : a.image ≡ b.image

-- they begin alike and have the same rules
pub record HaveSameRules (a b : ModelOrigin) : Type 0 where
  pub first : first_state a ≡ first_state b
  pub next : (s : State) (op : Op) → model_next a s op ≡ model_next b s op
  pub answer : (s : State) (op : Op) → model_answer a s op ≡ model_answer b s op
  pub reached : (s : State) → IsReached a s → IsReached b s
