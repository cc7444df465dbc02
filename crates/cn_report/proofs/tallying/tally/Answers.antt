use Rattle.std.proofs.Common.{ap, ◌∙◌}
use Rattle.checkpoint_slots.specs.declared.slot.Slot.{Slot}
use Rattle.recovery.specs.Past.{past_of}
use Rattle.cn_report.proofs.Records.{fresh-long, image-formed, image-long, none-first, slot-is}
use Rattle.cn_report.proofs.tallying.tally.Goals as goal

pub recover-requires-clause-image : goal.recover-requires-clause-image
recover-requires-clause-image g c =
    image-long c.args.layout.now (g.B.Board.start (g.B.Board.origin c.args.board.now)) (g.B.Board.state c.args.board.now) c.losses-lost.ensures.sound
    (fresh-long c.args.program.now c.args.layout.now (g.B.Board.start (g.B.Board.origin c.args.board.now)).image c.requires.fresh)

pub recover-requires-clause-formed : goal.recover-requires-clause-formed
recover-requires-clause-formed g c =
    image-formed c.args.program.now c.args.layout.now (g.B.Board.start (g.B.Board.origin c.args.board.now)) (g.B.Board.state c.args.board.now) c.losses-lost.ensures.sound c.requires.replayed

pub count_log-counts-requires-clause-large : goal.count_log-counts-requires-clause-large
count_log-counts-requires-clause-large g c = fresh-long c.args.program.now c.args.layout.now (g.B.Board.start (g.B.Board.origin c.args.board.now)).image c.requires.fresh

pub count_log-counts-requires-clause-none : goal.count_log-counts-requires-clause-none
count_log-counts-requires-clause-none g c =
    none-first c.args.program.now (past_of c.args.layout.now (g.B.Board.start (g.B.Board.origin c.args.board.now)) (g.B.Board.state c.args.board.now)) c.requires.fresh

pub count_log-counts-requires-clause-heads : goal.count_log-counts-requires-clause-heads
count_log-counts-requires-clause-heads g c = c.fresh.ensures c.args.program.now c.args.layout.now (g.B.Board.start (g.B.Board.origin c.args.board.now)).image c.requires.fresh

pub count_log-counts-requires-clause-len : goal.count_log-counts-requires-clause-len
count_log-counts-requires-clause-len g c =
    let slot = slot-is c.args.program.now c.args.layout.now (g.B.Board.start (g.B.Board.origin c.args.board.now)) (g.B.Board.state c.args.board.now) c.losses-lost.ensures.sound c.requires.replayed in
    ap (λ (s : Slot). s.len) (c.recover.ensures ∙ slot)
