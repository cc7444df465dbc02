use Rattle.std.proofs.Common.{◌≡◌, ◌<◌, ◌≤◌, ◌+◌, ◌∷◌, length, get_or, refl, sym, ap, ◌∙◌, subst, arith}
use Rattle.std.specs.Prelude.{List}
use Rattle.cat_program.specs.Body.{block_at}
use Rattle.cat_eval.specs.declared.state.Frame.{Frame}
use Rattle.cat_eval.proofs.Frames.{frame}
use Rattle.cat_eval.proofs.Leaving.{Leaving, leaving_starts, leaving_block, leaving_room, leaving_keeps, leaving_drops, leaving_ends}
use Rattle.cat_eval.proofs.standing.left.Goals as goal
use Rattle.cat_eval.proofs.standing.left.Goals.{then-frame-block, else-frame-block}

pub loop-frame-init : goal.loop-frame-init
loop-frame-init c = subst (λ (rest : List Frame). Leaving c.args.program.now c.args.frames.now rest 0) (sym c.none-rest.ensures) (leaving_starts c.args.program.now c.args.frames.now)

pub block-requires : goal.block-requires
block-requires c = leaving_block c.args.program.now c.args.frames.now c.loop-frame.frame-index (frame 0 0) _ c.loop-frame-test.true refl c.requires

pub open-requires : goal.open-requires
open-requires c = leaving_room c.args.program.now c.args.frames.now c.loop-frame.frame-index (frame 0 0) _ c.loop-frame-test.true refl c.requires c.loop-frame.rest c.loop-frame.invariant

pub loop-frame-preserved : goal.loop-frame-preserved
loop-frame-preserved c =
    let p = c.args.program.now in
    let fs = c.args.frames.now in
    let n = c.loop-frame.frame-index in
    let f = get_or fs n (frame 0 0) in
    let long : length c.block.result.now ≡ length (block_at p.blocks f.block) = ap length c.block.ensures in
    elim c.if-frame-block.branch [
      | then-frame-block w ↦
          let within : f.place < length (block_at p.blocks f.block) = omega (arith, long, w.if-frame-block.true) in
          let kept : Leaving p fs (f ∷ c.loop-frame.rest) (n + 1) = leaving_keeps p fs n (frame 0 0) f c.loop-frame-test.true refl c.requires c.loop-frame.rest c.loop-frame.invariant within in
          subst (λ (rest : List Frame). Leaving p fs rest (n + 1)) (sym (w.rest-is ∙ w.open.ensures)) kept
      | else-frame-block w ↦
          let over : length (block_at p.blocks f.block) ≤ f.place = omega (arith, long, w.if-frame-block.false) in
          let kept : Leaving p fs c.loop-frame.rest (n + 1) = leaving_drops p fs n (frame 0 0) f c.loop-frame-test.true refl c.requires c.loop-frame.rest c.loop-frame.invariant over in
          subst (λ (rest : List Frame). Leaving p fs rest (n + 1)) (sym w.rest-is) kept
    ]

pub returns : goal.returns
returns c = record {
  body = leaving_ends c.args.program.now c.args.frames.now c.loop-frame.rest c.loop-frame.frame-index c.loop-frame-test.false c.loop-frame.invariant;
  at = c.loop-frame.invariant.at;
}
