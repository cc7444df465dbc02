use Rattle.std.proofs.Common.{refl}
use Rattle.cn_base.specs.PageSums.{adds_on}
use Rattle.cn_base.specs.PageWords.{held_in}
use Rattle.cn_base.specs.TextSums.{cut_behind_held}
use Rattle.cn_resume.specs.Saved.{head_bytes, saved_bytes}
use Rattle.cn_resume.proofs.saving.add_saved.Goals as goal

pub returns-in-Ok-clause-text : goal.returns-in-Ok-clause-text
returns-in-Ok-clause-text g c =
    let board = g.B.Board.state c.args.board.now in
    let head = rw (c.tick.ensures.value, c.stored.ensures.value) at c.in-Ok.ensures.text in
    adds_on _ _ _ _ _ _ (head_bytes board.tick board.stored) board.image (saved_bytes board) c.add_image.result refl head c.add_image.ensures.text

pub returns-in-Err-clause-text : goal.returns-in-Err-clause-text
returns-in-Err-clause-text g c =
    let board = g.B.Board.state c.args.board.now in
    let head = rw (c.tick.ensures.value, c.stored.ensures.value) at c.in-Err.ensures.text in
    cut_behind_held _ _ (held_in c.args.page.now) (head_bytes board.tick board.stored) board.image head
