use Rattle.std.proofs.Common.{sym}
use Rattle.recovery.specs.Past.{past_of}
use Rattle.cn_report.proofs.Records.{fresh-long, fresh-words, none-first}
use Rattle.cn_report.proofs.report.write_report.Goals as goal

pub write_resumed-requires-clause-words : goal.write_resumed-requires-clause-words
write_resumed-requires-clause-words g c = fresh-words c.args.program.now c.args.layout.now (g.B.Board.start (g.B.Board.origin c.args.board.now)).image c.requires.fresh

pub write_resumed-requires-clause-large : goal.write_resumed-requires-clause-large
write_resumed-requires-clause-large g c = fresh-long c.args.program.now c.args.layout.now (g.B.Board.start (g.B.Board.origin c.args.board.now)).image c.requires.fresh

pub write_resumed-requires-clause-from : goal.write_resumed-requires-clause-from
write_resumed-requires-clause-from g c =
    sym (none-first c.args.program.now (past_of c.args.layout.now (g.B.Board.start (g.B.Board.origin c.args.board.now)) (g.B.Board.state c.args.board.now)) c.requires.fresh)

pub write_resumed-requires-clause-kept : goal.write_resumed-requires-clause-kept
write_resumed-requires-clause-kept g c = c.fresh-shadow.ensures c.args.program.now c.args.layout.now (g.B.Board.start (g.B.Board.origin c.args.board.now)).image c.requires.fresh
