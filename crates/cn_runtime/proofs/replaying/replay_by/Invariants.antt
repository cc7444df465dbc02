use Rattle.std.proofs.Common.{◌≡◌, false, ◌-◌}
use Rattle.cn_base.specs.declared.TheConstants.{MOST_TICKS}
use Rattle.cn_scheduler.specs.declared.engine.Chunk.{Chunk}
use Rattle.cn_scheduler.specs.Chunks.{is_last}
use Rattle.nv_memory.specs.Board.{IsSound}
use Rattle.lawful_timeline.specs.Lines.{Reaches}
use Rattle.cn_runtime.proofs.replaying.replay_by.Given as goal

-- a lawful timeline leads here, which may go on
abbrev pub invariant-turns : goal.invariant-turns
invariant-turns g l =
    let state = g.B.Board.state in
    let point = g.T.Turns.point in
    record {
      so_far : (before : Chunk) × (is_last before ≡ false) × Reaches l.plan (point l.fn.turns (state l.fn.board)) before (point l.turns (state l.board));
      belongs : g.T.Turns.belongs l.turns l.plan (state l.board);
      sound : IsSound (g.B.Board.start (g.B.Board.origin l.board)) (state l.board);
      same_origin : g.B.Board.origin l.board ≡ g.B.Board.origin l.fn.board;
    }

abbrev pub decreases-turns : goal.decreases-turns
decreases-turns g l = MOST_TICKS - (g.B.Board.state l.board).tick
