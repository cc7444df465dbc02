use Rattle.cn_scheduler.specs.declared.choice.Choice.TheVariants.{Wake}
use Rattle.cn_scheduler.specs.EnginePoint.{work_in, point_of}
use Rattle.cn_scheduler.proofs.Warranted.{warranted}
use Rattle.cn_scheduler.proofs.Kept.{wake_keeps, wake_does}
use Rattle.cn_scheduler.proofs.engine.Engine.run_wake.Goals as goal

pub wake-requires : goal.wake-requires
wake-requires g c = (warranted c.args.plan.now (point_of c.args.self.now (g.B.Board.state c.args.board.now)) Wake c.requires.chosen).2

pub returns-clause-does : goal.returns-clause-does
returns-clause-does g c =
    let e = c.args.self.now in
    let old = g.B.Board.state c.args.board.now in
    wake_does c.args.plan.now c.requires.belongs.0 (work_in e) e.dirty old (g.B.Board.state c.wake.new.self) c.wake.result c.chunk_of.result c.chunk_of.ensures
    (warranted c.args.plan.now (point_of e old) Wake c.requires.chosen).2 c.wake.ensures.step c.requires.belongs.1

pub returns-clause-keeps : goal.returns-clause-keeps
returns-clause-keeps g c =
    let e = c.args.self.now in
    let old = g.B.Board.state c.args.board.now in
    record {
      rest = λ over full. c.requires.rest;
      belongs = λ over full program b.
          wake_keeps c.args.plan.now program (work_in e) e.dirty old (g.B.Board.state c.wake.new.self) c.wake.result (warranted c.args.plan.now (point_of e old) Wake c.requires.chosen).2 c.wake.ensures.step b;
    }
