use Rattle.std.proofs.Common.{◌⊎◌, inl, inr, ◌+◌, ◌≤◌, ◌<◌, refl, sym, ◌∙◌, ap, arith}
use Rattle.nv_memory.specs.declared.board.Answer.TheVariants.{Done, Over}
use Rattle.nv_memory.specs.Board.{No_room}
use Rattle.board_core.specs.declared.origin.ModelOrigin.{ModelOrigin}
use Rattle.board_core.specs.ModelBoardState.{origin_of, state_of}
use Rattle.board_core.specs.Reached.{slept}
use Rattle.board_core.proofs.Sleeping.{slept-add, slept_none}
use Rattle.board_core.proofs.model_board.ModelBoardBoard.sleep_to.Goals as goal
use Rattle.board_core.proofs.model_board.ModelBoardBoard.sleep_to.Goals.{then-self-upto-via-then-self-upto, then-self-upto-via-else-self-upto+then-self-enough}

pub rows-init : goal.rows-init
rows-init c = record {
  goes_on = λ answer u rest. rest;
  same_origin = refl;
  early = c.requires;
  so_far = (0, sym (slept_none (origin_of c.args.self.now) (state_of c.args.self.now)));
}

pub returns-then-self-life-clause-steps : goal.returns-then-self-life-clause-steps
returns-then-self-life-clause-steps c = c.rows.invariant.goes_on Over _ (No_room _ _ (record { no_room = omega arith; same = refl }))

pub returns-then-self-upto-clause-steps : goal.returns-then-self-upto-clause-steps
returns-then-self-upto-clause-steps c =
    let t = state_of c.rest_on.new.self in
    let ended : (c.args.upto ≤ t.tick) ⊎ (c.args.enough ≤ t.stored) =
    elim c.then-self-upto.branch [
      | then-self-upto-via-then-self-upto w ↦ inl (omega arith)
      | then-self-upto-via-else-self-upto+then-self-enough w ↦ inr (omega arith)
    ] in
    c.rows.invariant.goes_on Done t (c.rest_on.ensures.onward Done t (inl (refl, refl, ended)))

pub returns-then-self-upto-clause-state : goal.returns-then-self-upto-clause-state
returns-then-self-upto-clause-state c =
    let b = c.args.self.now in
    let a = c.rows.self in
    let first = c.rows.invariant.so_far in
    let then_ = c.rest_on.ensures.state in
    (first.0 + then_.0, then_.1 ∙ ap (λ (o : ModelOrigin). slept o then_.0 (state_of a)) c.rows.invariant.same_origin ∙ ap (slept b.origin then_.0) first.1 ∙ slept-add b.origin first.0 then_.0 (state_of b))

pub rows-preserved : goal.rows-preserved
rows-preserved c =
    let b = c.args.self.now in
    let a = c.rows.self in
    let t = state_of c.rest_on.new.self in
    let first = c.rows.invariant.so_far in
    let then_ = c.rest_on.ensures.state in
    let early : t.tick < c.args.upto = omega arith in
    let little : t.stored < c.args.enough = omega arith in
    record {
      goes_on = λ answer u rest. c.rows.invariant.goes_on answer u (c.rest_on.ensures.onward answer u (inr (early, little, rest)));
      same_origin = c.rest_on.ensures.origin ∙ c.rows.invariant.same_origin;
      early = early;
      so_far = (first.0 + then_.0, then_.1 ∙ ap (λ (o : ModelOrigin). slept o then_.0 (state_of a)) c.rows.invariant.same_origin ∙ ap (slept b.origin then_.0) first.1 ∙ slept-add b.origin first.0 then_.0 (state_of b));
    }
