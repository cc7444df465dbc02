use Rattle.std.proofs.Common.{ℕ, ◌+◌, ◌≤◌, false, List, ◌++◌, ◌∙◌, sym, ap, subst, arith, rules}
use Rattle.harvest_trace.specs.Timeline.{life_of}
use Rattle.nv_memory.specs.declared.entry.Entry.{Entry}
use Rattle.nv_memory.specs.Board.{State, IsSound}
use Rattle.board_core.specs.Kept.{entries_of}
use Rattle.board_core.specs.Records.{sleeps}
use Rattle.board_core.specs.ModelState.{model_state}
use Rattle.board_core.specs.ModelBoardState.{state_of}
use Rattle.board_core.specs.Reached.{IsReached, model_start}
use Rattle.board_core.proofs.Outlooks.{later}
use Rattle.board_core.proofs.Sleeping.{rest_is, slept_reached, slept_sound}
use Rattle.board_core.proofs.model_board.ModelBoard.rest.Goals as goal

pub invariant_of-self : goal.invariant_of-self
invariant_of-self c =
    let b = c.args.self.now in
    let o = b.origin in
    let n = c.args.ticks in
    let h = b.outlook.harvest in
    let begun : o.tick ≤ b.tick = omega (arith, b.sound.passed) in
    let fits : b.tick + n ≤ life_of o.trace = omega (arith, c.requires.covered, b.ahead.in_life) in
    let is = rest_is o b.image.items (entries_of b.timeline) b.tick b.stored b.losses b.on n h c.requires.some begun fits (λ t from until. b.ahead.harvest t from (omega (arith, c.requires.covered))) in
    let entries_are = c.push_sleeps.ensures.entries ∙ ap (λ (cap : ℕ). entries_of b.timeline ++ sleeps cap b.tick b.stored h n) b.cap in
    let now_is = ap (λ (es : List Entry). model_state o b.image.items es (b.tick + n) c.refilled-self.result b.losses false) entries_are
    ∙ ap (λ (x : ℕ). model_state o b.image.items (entries_of b.timeline ++ sleeps o.device.cap b.tick b.stored h n) (b.tick + n) x b.losses false) c.refilled-self.ensures.at_once
    ∙ is in
    record {
      sound = subst (λ (t : State). IsSound (model_start o) t) (sym now_is) (slept_sound c.boards_stay_sound.ensures o n (state_of b) b.sound fits);
      reached = subst (λ (t : State). IsReached o t) (sym now_is) (slept_reached c.operations_are_bounded.ensures o n (state_of b) b.reached fits);
      ahead = later o b.tick (b.tick + n) b.outlook (omega arith) b.ahead;
      cap = search rules;
      room = search rules;
    }

pub returns-clause-state : goal.returns-clause-state
returns-clause-state c =
    let b = c.args.self.now in
    let o = b.origin in
    let n = c.args.ticks in
    let h = b.outlook.harvest in
    let begun : o.tick ≤ b.tick = omega (arith, b.sound.passed) in
    let fits : b.tick + n ≤ life_of o.trace = omega (arith, c.requires.covered, b.ahead.in_life) in
    let is = rest_is o b.image.items (entries_of b.timeline) b.tick b.stored b.losses b.on n h c.requires.some begun fits (λ t from until. b.ahead.harvest t from (omega (arith, c.requires.covered))) in
    let entries_are = c.push_sleeps.ensures.entries ∙ ap (λ (cap : ℕ). entries_of b.timeline ++ sleeps cap b.tick b.stored h n) b.cap in
    ap (λ (es : List Entry). model_state o b.image.items es (b.tick + n) c.refilled-self.result b.losses false) entries_are
    ∙ ap (λ (x : ℕ). model_state o b.image.items (entries_of b.timeline ++ sleeps o.device.cap b.tick b.stored h n) (b.tick + n) x b.losses false) c.refilled-self.ensures.at_once
    ∙ is
