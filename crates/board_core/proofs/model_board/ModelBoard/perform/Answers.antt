use Rattle.std.proofs.Common.{◌+◌, ◌≤◌, sym, subst, arith}
use Rattle.nv_memory.specs.Board.{State, Steps, ticks_of}
use Rattle.board_core.specs.Kept.{entries_of}
use Rattle.board_core.specs.ModelBoardState.{state_of}
use Rattle.board_core.proofs.ModelLemmas.{acts}
use Rattle.board_core.proofs.model_board.ModelBoard.perform.Goals as goal

pub returns-clause-step : goal.returns-clause-step
returns-clause-step c =
    let b = c.args.self.now in
    let a = c.look_ahead.new.self in
    let same = c.look_ahead.ensures.state in
    let before : b.tick + ticks_of (state_of b).ticks c.args.op ≤ (state_of b).life = omega arith in
    let fits : (state_of a).tick + ticks_of (state_of a).ticks c.args.op ≤ (state_of a).life = subst (λ (s : State). s.tick + ticks_of s.ticks c.args.op ≤ s.life) (sym same) before in
    let step : Steps (state_of a) c.args.op c.act.result (state_of c.act.new.self) = rw (c.act.ensures.answer, c.act.ensures.state) (acts c.operations_are_bounded.ensures a.origin a.image.items (entries_of a.timeline) a.tick a.stored a.losses a.on c.args.op fits) in
    subst (λ (s : State). Steps s c.args.op c.act.result (state_of c.act.new.self)) same step
