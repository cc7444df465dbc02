use Rattle.std.proofs.Common.{◌≡◌, ◌≤◌, length, map, arith}
use Rattle.std.specs.List.{range_with_len}
use Rattle.std.proofs.lemmas.Result.{IfOk-weaker}
use Rattle.recovery.specs.Past.{past_of}
use Rattle.cn_uplink.specs.Log.{entry_by, log_of}
use Rattle.cn_uplink.proofs.Logged.{image-formed, image-long, len-few, len-spelled, log-few, log-is}
use Rattle.cn_uplink.proofs.log.committed_log.Goals as goal

pub recover-requires-clause-image : goal.recover-requires-clause-image
recover-requires-clause-image g c =
    image-long c.args.program.now c.args.layout.now (g.B.Board.start (g.B.Board.origin c.args.board.now)) (g.B.Board.state c.args.board.now) c.entries-sound.ensures.sound c.requires.fresh

pub recover-requires-clause-formed : goal.recover-requires-clause-formed
recover-requires-clause-formed g c =
    image-formed c.args.program.now c.args.layout.now (g.B.Board.start (g.B.Board.origin c.args.board.now)) (g.B.Board.state c.args.board.now) c.entries-sound.ensures.sound c.requires.committed

pub read_log-requires-clause-image : goal.read_log-requires-clause-image
read_log-requires-clause-image g c =
    image-long c.args.program.now c.args.layout.now (g.B.Board.start (g.B.Board.origin c.args.board.now)) (g.B.Board.state c.args.board.now) c.entries-sound.ensures.sound c.requires.fresh

pub read_log-requires-clause-len : goal.read_log-requires-clause-len
read_log-requires-clause-len g c =
    len-few c.args.program.now c.args.layout.now (g.B.Board.start (g.B.Board.origin c.args.board.now)) (g.B.Board.state c.args.board.now) c.entries-sound.ensures.sound c.requires.committed
    c.recover.new.into c.recover.ensures

pub read_log-requires-clause-spelled : goal.read_log-requires-clause-spelled
read_log-requires-clause-spelled g c =
    len-spelled c.args.program.now c.args.layout.now (g.B.Board.start (g.B.Board.origin c.args.board.now)) (g.B.Board.state c.args.board.now) c.entries-sound.ensures.sound c.requires.committed
    c.recover.new.into c.recover.ensures

pub returns-clause-log : goal.returns-clause-log
returns-clause-log g c =
    let l = c.args.layout.now in
    let start = g.B.Board.start (g.B.Board.origin c.args.board.now) in
    let s = g.B.Board.state c.args.board.now in
    IfOk-weaker c.read_log.result (λ log. log.entries ≡ map (entry_by l s.image) (range_with_len 0 c.recover.new.into.len)) (λ log. log.entries ≡ log_of (past_of l start s))
    (λ log read. log-is c.args.program.now l start s c.entries-sound.ensures.sound c.recover.new.into log.entries c.recover.ensures read) c.read_log.ensures

pub returns-clause-few : goal.returns-clause-few
returns-clause-few g c =
    let l = c.args.layout.now in
    let start = g.B.Board.start (g.B.Board.origin c.args.board.now) in
    let s = g.B.Board.state c.args.board.now in
    let sound = c.entries-sound.ensures.sound in
    let most = len-few c.args.program.now l start s sound c.requires.committed c.recover.new.into c.recover.ensures in
    IfOk-weaker c.read_log.result (λ log. log.entries ≡ map (entry_by l s.image) (range_with_len 0 c.recover.new.into.len)) (λ log. length log.entries ≤ 1000000)
    (λ log read. omega (arith, log-few c.args.program.now l start s sound c.recover.new.into log.entries most read, l.log_in_range)) c.read_log.ensures
