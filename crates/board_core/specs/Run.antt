-- An operation that was done.
use Rattle.std.specs.Prelude.{◌≡◌}
use Rattle.nv_memory.specs.declared.entry.Op.{Op}
use Rattle.nv_memory.specs.declared.board.Answer.TheVariants.{Done}
use Rattle.nv_memory.specs.Board.{State, Steps}
use Rattle.board_core.specs.declared.origin.ModelOrigin.{ModelOrigin}
use Rattle.board_core.specs.Rules.{model_answer, model_next}

-- the rules lead from one state to the other by an operation, which is done
pub record IsRun (o : ModelOrigin) (s t : State) (op : Op) : Type 0 where
  pub next : t ≡ model_next o s op
  pub answer : model_answer o s op ≡ Done
  pub step : Steps s op Done t
