use Rattle.std.proofs.Common.{refl, ◌∙◌}
use Rattle.cn_scheduler.specs.declared.engine.Chunk.TheVariants.{Ended, Dropped, Lost, Over, Full}
use Rattle.cn_scheduler.specs.declared.engine.End.TheVariants.{TraceEnded, LogFull}
use Rattle.cn_runtime.proofs.Turned.{less_time, replayed}
use Rattle.cn_runtime.proofs.replaying.replay_by.Goals as goal

pub turns-init : goal.turns-init
turns-init g c = record {
  so_far = (Ended, refl, (c.timelines_grow.ensures c.args.plan.now).none (g.T.Turns.point c.args.turns.now (g.B.Board.state c.args.board.now)));
  belongs = c.requires;
  sound = c.tick-tick.ensures.sound;
  same_origin = refl;
}

pub turns-smaller-in-Ended : goal.turns-smaller-in-Ended
turns-smaller-in-Ended g c =
    less_time c.args.plan.now (c.timelines_grow.ensures c.args.plan.now) (g.T.Turns.point c.turns.turns (g.B.Board.state c.turns.board)) (g.T.Turns.point c.turn-outcome.new.self (g.B.Board.state c.turn-outcome.new.board)) Ended (g.B.Board.state c.turns.board) (g.B.Board.state c.turn-outcome.new.board)
    (g.B.Board.start (g.B.Board.origin c.turns.board)) (g.B.Board.start (g.B.Board.origin c.turn-outcome.new.board)) (g.met.T.Turns.stands c.turns.turns (g.B.Board.state c.turns.board)) (g.met.T.Turns.stands c.turn-outcome.new.self (g.B.Board.state c.turn-outcome.new.board))
    c.turns.invariant.sound c.tick-tick-in-turns.ensures.sound refl c.in-Ended.ensures.turned

pub turns-preserved-in-Ended : goal.turns-preserved-in-Ended
turns-preserved-in-Ended g c = record {
  so_far = (Ended, refl, (c.timelines_grow.ensures c.args.plan.now).turn (g.T.Turns.point c.args.turns.now (g.B.Board.state c.args.board.now)) (g.T.Turns.point c.turns.turns (g.B.Board.state c.turns.board)) (g.T.Turns.point c.turn-outcome.new.self (g.B.Board.state c.turn-outcome.new.board)) c.turns.invariant.so_far.0 Ended c.turns.invariant.so_far.1 c.turns.invariant.so_far.2 c.in-Ended.ensures.turned);
  belongs = c.in-Ended.ensures.belongs refl;
  sound = c.tick-tick-in-turns.ensures.sound;
  same_origin = c.in-Ended.ensures.origin ∙ c.turns.invariant.same_origin;
}

pub turns-smaller-in-Dropped : goal.turns-smaller-in-Dropped
turns-smaller-in-Dropped g c =
    less_time c.args.plan.now (c.timelines_grow.ensures c.args.plan.now) (g.T.Turns.point c.turns.turns (g.B.Board.state c.turns.board)) (g.T.Turns.point c.turn-outcome.new.self (g.B.Board.state c.turn-outcome.new.board)) Dropped (g.B.Board.state c.turns.board) (g.B.Board.state c.turn-outcome.new.board)
    (g.B.Board.start (g.B.Board.origin c.turns.board)) (g.B.Board.start (g.B.Board.origin c.turn-outcome.new.board)) (g.met.T.Turns.stands c.turns.turns (g.B.Board.state c.turns.board)) (g.met.T.Turns.stands c.turn-outcome.new.self (g.B.Board.state c.turn-outcome.new.board))
    c.turns.invariant.sound c.tick-tick-in-turns.ensures.sound refl c.in-Dropped.ensures.turned

pub turns-preserved-in-Dropped : goal.turns-preserved-in-Dropped
turns-preserved-in-Dropped g c = record {
  so_far = (Dropped, refl, (c.timelines_grow.ensures c.args.plan.now).turn (g.T.Turns.point c.args.turns.now (g.B.Board.state c.args.board.now)) (g.T.Turns.point c.turns.turns (g.B.Board.state c.turns.board)) (g.T.Turns.point c.turn-outcome.new.self (g.B.Board.state c.turn-outcome.new.board)) c.turns.invariant.so_far.0 Dropped c.turns.invariant.so_far.1 c.turns.invariant.so_far.2 c.in-Dropped.ensures.turned);
  belongs = c.in-Dropped.ensures.belongs refl;
  sound = c.tick-tick-in-turns.ensures.sound;
  same_origin = c.in-Dropped.ensures.origin ∙ c.turns.invariant.same_origin;
}

pub turns-smaller : goal.turns-smaller
turns-smaller g c =
    less_time c.args.plan.now (c.timelines_grow.ensures c.args.plan.now) (g.T.Turns.point c.turns.turns (g.B.Board.state c.turns.board)) (g.T.Turns.point c.turn-outcome.new.self (g.B.Board.state c.turn-outcome.new.board)) Lost (g.B.Board.state c.turns.board) (g.B.Board.state c.turn-outcome.new.board)
    (g.B.Board.start (g.B.Board.origin c.turns.board)) (g.B.Board.start (g.B.Board.origin c.turn-outcome.new.board)) (g.met.T.Turns.stands c.turns.turns (g.B.Board.state c.turns.board)) (g.met.T.Turns.stands c.turn-outcome.new.self (g.B.Board.state c.turn-outcome.new.board))
    c.turns.invariant.sound c.tick-tick-in-turns.ensures.sound refl c.in-Lost.ensures.turned

pub turns-preserved : goal.turns-preserved
turns-preserved g c = record {
  so_far = (Lost, refl, (c.timelines_grow.ensures c.args.plan.now).turn (g.T.Turns.point c.args.turns.now (g.B.Board.state c.args.board.now)) (g.T.Turns.point c.turns.turns (g.B.Board.state c.turns.board)) (g.T.Turns.point c.turn-outcome.new.self (g.B.Board.state c.turn-outcome.new.board)) c.turns.invariant.so_far.0 Lost c.turns.invariant.so_far.1 c.turns.invariant.so_far.2 c.in-Lost.ensures.turned);
  belongs = c.in-Lost.ensures.belongs refl;
  sound = c.tick-tick-in-turns.ensures.sound;
  same_origin = c.in-Lost.ensures.origin ∙ c.turns.invariant.same_origin;
}

pub returns-in-Over-clause-replayed : goal.returns-in-Over-clause-replayed
returns-in-Over-clause-replayed g c = λ program set_up begins.
    replayed program c.args.plan.now (g.T.Turns.point c.args.turns.now (g.B.Board.state c.args.board.now)) (g.T.Turns.point c.turn-outcome.new.self (g.B.Board.state c.turn-outcome.new.board)) Over TraceEnded (g.B.Board.state c.turn-outcome.new.board) (c.lawful_timelines_hold.ensures program c.args.plan.now) set_up begins
    ((c.timelines_grow.ensures c.args.plan.now).turn (g.T.Turns.point c.args.turns.now (g.B.Board.state c.args.board.now)) (g.T.Turns.point c.turns.turns (g.B.Board.state c.turns.board)) (g.T.Turns.point c.turn-outcome.new.self (g.B.Board.state c.turn-outcome.new.board)) c.turns.invariant.so_far.0 Over c.turns.invariant.so_far.1 c.turns.invariant.so_far.2 c.in-Over.ensures.turned) refl
    (g.met.T.Turns.stands c.turn-outcome.new.self (g.B.Board.state c.turn-outcome.new.board))

pub returns-in-Full-clause-replayed : goal.returns-in-Full-clause-replayed
returns-in-Full-clause-replayed g c = λ program set_up begins.
    replayed program c.args.plan.now (g.T.Turns.point c.args.turns.now (g.B.Board.state c.args.board.now)) (g.T.Turns.point c.turn-outcome.new.self (g.B.Board.state c.turn-outcome.new.board)) Full LogFull (g.B.Board.state c.turn-outcome.new.board) (c.lawful_timelines_hold.ensures program c.args.plan.now) set_up begins
    ((c.timelines_grow.ensures c.args.plan.now).turn (g.T.Turns.point c.args.turns.now (g.B.Board.state c.args.board.now)) (g.T.Turns.point c.turns.turns (g.B.Board.state c.turns.board)) (g.T.Turns.point c.turn-outcome.new.self (g.B.Board.state c.turn-outcome.new.board)) c.turns.invariant.so_far.0 Full c.turns.invariant.so_far.1 c.turns.invariant.so_far.2 c.in-Full.ensures.turned) refl
    (g.met.T.Turns.stands c.turn-outcome.new.self (g.B.Board.state c.turn-outcome.new.board))
