use Rattle.std.proofs.Common.{◌∙◌, ◌+◌, take, drop, arith}
use Rattle.cn_base.specs.PageSums.{adds_cut, held_adds}
use Rattle.nv_memory.specs.Bytes.{bytes_at}
use Rattle.cn_resume.proofs.Taken.{more, and_the_rest}
use Rattle.cn_resume.proofs.saving.add_image.Goals as goal

pub returns-in-Err-clause-text : goal.returns-in-Err-clause-text
returns-in-Err-clause-text g c =
    let image = (g.B.Board.state c.args.board.now).image in
    let from = c.loop-from.from in
    let count = c.min-count.result in
    adds_cut _ _ _ _ _ (take from image) (bytes_at from count image) (drop (from + count) image) image (and_the_rest image from count)
    c.loop-from.invariant.text c.in-Err.ensures.text

pub loop-from-preserved : goal.loop-from-preserved
loop-from-preserved g c =
    let image = (g.B.Board.state c.args.board.now).image in
    let from = c.loop-from.from in
    let count = c.min-count.result in
    record {
      within = omega arith;
      same_sink = c.in-Ok.ensures.same_sink ∙ c.loop-from.invariant.same_sink;
      text = held_adds _ _ _ _ _ _ (take from image) (bytes_at from count image) (take (from + count) image) (more image from count) c.loop-from.invariant.text c.in-Ok.ensures.text;
      faults = c.in-Ok.ensures.cause.kept ∙ c.loop-from.invariant.faults;
    }
