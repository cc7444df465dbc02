use Rattle.std.proofs.Common.{◌+◌, ◌≤◌, ◌∙◌, sym, ap, subst, arith}
use Rattle.harvest_trace.specs.Timeline.{life_of}
use Rattle.nv_memory.specs.declared.entry.Op.TheVariants.{Sleep}
use Rattle.nv_memory.specs.Board.{State, IsDone}
use Rattle.board_core.specs.declared.origin.ModelOrigin.{ModelOrigin}
use Rattle.board_core.specs.ModelBoardState.{state_of}
use Rattle.board_core.specs.Reached.{slept}
use Rattle.board_core.proofs.Sleeping.{done_sleep, slept_one}
use Rattle.board_core.proofs.model_board.ModelBoardBoard.sleep.Goals as goal

pub returns-clause-step : goal.returns-clause-step
returns-clause-step c =
    let b = c.args.self.now in
    let fits : b.tick + 1 ≤ life_of b.origin.trace = omega arith in
    let is = c.rest.ensures.state ∙ ap (λ (o : ModelOrigin). slept o 1 (state_of c.look_ahead.new.self)) c.look_ahead.ensures.origin ∙ ap (slept b.origin 1) c.look_ahead.ensures.state ∙ slept_one b.origin (state_of b) in
    subst (λ (t : State). IsDone (state_of b) Sleep t) (sym is) (done_sleep b.origin (state_of b) fits)

pub returns-clause-state : goal.returns-clause-state
returns-clause-state c =
    let b = c.args.self.now in
    c.rest.ensures.state ∙ ap (λ (o : ModelOrigin). slept o 1 (state_of c.look_ahead.new.self)) c.look_ahead.ensures.origin ∙ ap (slept b.origin 1) c.look_ahead.ensures.state ∙ slept_one b.origin (state_of b)
