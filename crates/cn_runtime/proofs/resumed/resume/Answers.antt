use Rattle.cn_runtime.proofs.Resumes.{on_time, posts_many, starts, together, words_many}
use Rattle.cn_runtime.proofs.resumed.resume.Goals as goal

pub restore-requires-clause-formed : goal.restore-requires-clause-formed
restore-requires-clause-formed g c = c.requires.saved.saved.stands.committed.formed

pub restore-requires-clause-words : goal.restore-requires-clause-words
restore-requires-clause-words g c = words_many c.args.prepared.now.program c.args.prepared.now.plan c.requires.set_up c.args.prepared.now.engine c.requires.first

pub restore-requires-clause-posts : goal.restore-requires-clause-posts
restore-requires-clause-posts g c = posts_many c.args.prepared.now.program c.args.prepared.now.plan c.requires.set_up c.args.prepared.now.engine c.requires.first

pub replay_by-requires : goal.replay_by-requires
replay_by-requires g c =
    let prepared = c.args.prepared.now in
    let board = g.B.Board.state c.args.board.now in (
      c.restore.ensures.rest,
      (prepared.program, together prepared.program prepared.plan c.requires.set_up c.restore.new.self board c.restore.ensures (c.starts_belong.ensures prepared.program prepared.plan) c.requires.saved),
    )

pub returns-clause-replayed : goal.returns-clause-replayed
returns-clause-replayed g c =
    let prepared = c.args.prepared.now in
    let board = g.B.Board.state c.args.board.now in
    let begun = (c.starts_belong.ensures prepared.program prepared.plan).saved _ (starts prepared.program prepared.plan c.requires.set_up c.restore.new.self board c.restore.ensures c.requires.saved) in
    on_time prepared.program prepared.plan c.requires.set_up c.restore.new.self board c.restore.ensures prepared.device (g.B.Board.start (g.B.Board.origin c.args.board.now)) _ _ c.resumed_runs_are_on_time.ensures
    c.requires.saved c.requires.device c.tick-tick.ensures.sound (c.replay_by.ensures.replayed prepared.program c.requires.set_up begun.begins)
