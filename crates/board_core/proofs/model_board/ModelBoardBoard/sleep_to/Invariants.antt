use Rattle.std.proofs.Common.{◌≡◌, ℕ, ◌-◌, ◌<◌}
use Rattle.harvest_trace.specs.Timeline.{life_of}
use Rattle.nv_memory.specs.declared.board.Answer.{Answer}
use Rattle.nv_memory.specs.Board.{State, Sleeps}
use Rattle.board_core.specs.ModelBoardState.{origin_of, state_of}
use Rattle.board_core.specs.Reached.{slept}
use Rattle.board_core.proofs.model_board.ModelBoardBoard.sleep_to.Given as goal

-- what follows from here follows from the first tick
abbrev pub invariant-rows : goal.invariant-rows
invariant-rows l = record {
  goes_on : (answer : Answer) (u : State) → Sleeps l.upto l.enough (state_of l.self) answer u → Sleeps l.upto l.enough (state_of l.fn.self) answer u;
  same_origin : origin_of l.self ≡ origin_of l.fn.self;
  early : l.self.tick < l.upto;
  so_far : (n : ℕ) × (state_of l.self ≡ slept (origin_of l.fn.self) n (state_of l.fn.self));
}

abbrev pub decreases-rows : goal.decreases-rows
decreases-rows l = life_of l.self.origin.trace - l.self.tick
