use Rattle.cn_scheduler.specs.EnginePoint.{point_of}
use Rattle.lawful_timeline.specs.Starting.{StartsFresh}
use Rattle.cn_runtime.proofs.Prepares.{on_time, together}
use Rattle.cn_runtime.proofs.prepared.replay.Goals as goal

pub replay_by-requires : goal.replay_by-requires
replay_by-requires g c =
    let prepared = c.args.prepared.now in (
      c.requires.first.rest,
      (
        prepared.program,
        together prepared.program prepared.plan (point_of prepared.engine (g.B.Board.state c.args.board.now)) (c.starts_belong.ensures prepared.program prepared.plan) c.requires.set_up
            (record { fresh = c.requires.fresh; off = c.requires.off; clean = c.requires.first.clean; work_is = c.requires.first.work }),
      ),
    )

pub returns-clause-replayed : goal.returns-clause-replayed
returns-clause-replayed g c =
    let prepared = c.args.prepared.now in
    let board = g.B.Board.state c.args.board.now in
    let fresh : StartsFresh prepared.program prepared.plan (point_of prepared.engine board) =
    record { fresh = c.requires.fresh; off = c.requires.off; clean = c.requires.first.clean; work_is = c.requires.first.work } in
    let sound = c.tick-tick.ensures.sound in
    on_time prepared.program prepared.device prepared.plan (g.B.Board.start (g.B.Board.origin c.args.board.now)) (point_of prepared.engine board) _ _ c.fresh_runs_are_on_time.ensures c.requires.set_up fresh
    c.requires.device sound (c.replay_by.ensures.replayed prepared.program c.requires.set_up ((c.starts_belong.ensures prepared.program prepared.plan).begins (point_of prepared.engine board) fresh))
