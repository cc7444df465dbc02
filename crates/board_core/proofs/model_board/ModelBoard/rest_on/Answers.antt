use Rattle.std.proofs.Common.{◌+◌, ◌≤◌, ◌∙◌, ap, subst, arith}
use Rattle.harvest_trace.specs.Timeline.{life_of}
use Rattle.nv_memory.specs.Board.{State, Sleeps}
use Rattle.board_core.specs.Onward.{Onward}
use Rattle.board_core.specs.declared.origin.ModelOrigin.{ModelOrigin}
use Rattle.board_core.specs.ModelBoardState.{state_of}
use Rattle.board_core.specs.Reached.{slept}
use Rattle.board_core.proofs.Sleeping.{sleeps_on}
use Rattle.board_core.proofs.model_board.ModelBoard.rest_on.Goals as goal

pub returns-clause-onward : goal.returns-clause-onward
returns-clause-onward c = λ answer t on.
    let b = c.args.self.now in
    let a = c.look_ahead.new.self in
    let n = c.ticks_to-ticks.result in
    let same = c.look_ahead.ensures.state in
    let ahead = a.ahead in
    let covered : a.tick + n ≤ a.outlook.until = omega (arith, c.ticks_to-ticks.ensures.few, c.min.ensures, c.look_ahead.ensures.ahead) in
    let early : a.tick + n ≤ c.args.upto = omega (arith, c.ticks_to-ticks.ensures.few, c.min.ensures, c.look_ahead.ensures.ahead, c.requires.early, ap (λ (s : State). s.tick) same) in
    let fits : a.tick + n ≤ life_of a.origin.trace = omega (arith, covered, ahead.in_life) in
    let on' : Onward c.args.upto c.args.enough (slept a.origin n (state_of a)) answer t = subst (λ (x : State). Onward c.args.upto c.args.enough x answer t) c.rest.ensures.state on in
    let from_here : Sleeps c.args.upto c.args.enough (state_of a) answer t = sleeps_on a.origin c.args.upto c.args.enough n a.outlook.harvest (state_of a) c.ticks_to-ticks.ensures.some fits
    (λ k from until. ahead.harvest k from (omega (arith, covered))) early c.ticks_to-ticks.ensures.early answer t on' in
    subst (λ (x : State). Sleeps c.args.upto c.args.enough x answer t) same from_here

pub returns-clause-state : goal.returns-clause-state
returns-clause-state c =
    let b = c.args.self.now in
    let a = c.look_ahead.new.self in
    let n = c.ticks_to-ticks.result in
    (n, c.rest.ensures.state ∙ ap (λ (o : ModelOrigin). slept o n (state_of a)) c.look_ahead.ensures.origin ∙ ap (slept b.origin n) c.look_ahead.ensures.state)
