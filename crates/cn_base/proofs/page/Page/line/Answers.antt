use Rattle.std.proofs.Common.{◌∙◌, sym, refl}
use Rattle.std.proofs.lemmas.List.{append-nil}
use Rattle.cn_base.specs.PageSums.{held_whole, adds_cut, held_adds}
use Rattle.cn_base.specs.PageWords.{held_in}
use Rattle.cn_base.proofs.LineSums.{line_more, line_all}
use Rattle.cn_base.proofs.page.Page.line.Goals as goal

pub loop-piece-init : goal.loop-piece-init
loop-piece-init g c = (refl, held_whole _ _ _ (sym (append-nil (held_in c.args.self.now))), refl)

pub returns-in-Err-clause-text : goal.returns-in-Err-clause-text
returns-in-Err-clause-text g c =
    adds_cut _ _ _ _ _ _ _ _ _ (line_all c.args.pieces.now c.loop-piece.piece-index _ c.loop-piece-test.true) c.loop-piece.invariant.1 c.in-Err.ensures.text

pub loop-piece-preserved : goal.loop-piece-preserved
loop-piece-preserved g c = (
  c.in-Ok.ensures.same_sink ∙ c.loop-piece.invariant.0,
  held_adds _ _ _ _ _ _ _ _ _ (sym (line_more c.args.pieces.now c.loop-piece.piece-index _ c.loop-piece-test.true)) c.loop-piece.invariant.1 c.in-Ok.ensures.text,
  c.in-Ok.ensures.cause.kept ∙ c.loop-piece.invariant.2,
)
