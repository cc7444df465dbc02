use Rattle.std.proofs.Common.{arith}
use Rattle.recovery.specs.Past.{past_of, entry_in}
use Rattle.cn_report.proofs.Moments.{sound-last}
use Rattle.cn_report.proofs.Records.{few, found_is, image-long, some_is}
use Rattle.cn_report.proofs.log.committed_entry.Goals as goal

pub entry_at-requires-clause-image : goal.entry_at-requires-clause-image
entry_at-requires-clause-image g c =
    image-long c.args.layout.now (g.B.Board.start (g.B.Board.origin c.args.board.now)) (g.B.Board.state c.args.board.now) c.requires.sound c.requires.large

pub entry_at-requires-clause-place : goal.entry_at-requires-clause-place
entry_at-requires-clause-place g c =
    let past = past_of c.args.layout.now (g.B.Board.start (g.B.Board.origin c.args.board.now)) (g.B.Board.state c.args.board.now) in
    omega (arith, few c.args.program.now past c.requires.replayed, c.requires.committed)

pub unreachable-requires : goal.unreachable-requires
unreachable-requires g c =
    let past = past_of c.args.layout.now (g.B.Board.start (g.B.Board.origin c.args.board.now)) (g.B.Board.state c.args.board.now) in
    let last = sound-last c.args.layout.now (g.B.Board.start (g.B.Board.origin c.args.board.now)) (g.B.Board.state c.args.board.now) c.requires.sound in
    let found = found_is c.args.program.now past c.requires.replayed c.records_are_read_again.ensures c.args.place c.requires.committed (g.B.Board.state c.args.board.now).image c.entry_at.result last c.entry_at.ensures in
    c.in_default.not-Some (entry_in past c.args.place) found

pub returns-clause-entry : goal.returns-clause-entry
returns-clause-entry g c =
    let past = past_of c.args.layout.now (g.B.Board.start (g.B.Board.origin c.args.board.now)) (g.B.Board.state c.args.board.now) in
    let last = sound-last c.args.layout.now (g.B.Board.start (g.B.Board.origin c.args.board.now)) (g.B.Board.state c.args.board.now) c.requires.sound in
    some_is c.args.program.now past c.requires.replayed c.records_are_read_again.ensures c.args.place c.requires.committed (g.B.Board.state c.args.board.now).image c.in-Some.entry last c.in-Some.ensures
