use Rattle.std.proofs.Common.{◌≡◌}
use Rattle.migration.specs.Moves.{line_part}
use Rattle.migration.proofs.Upto.{IsUpto}
use Rattle.migration.proofs.moving.bring_lines.Given as goal

abbrev pub invariant-loop-i : goal.invariant-loop-i
invariant-loop-i g l =
    record {
      upto : IsUpto (line_part l.old l.new (g.B.Board.state l.fn.board).image) (g.B.Board.state l.fn.board) l.i (g.B.Board.state l.board);
      same_origin : g.B.Board.origin l.board ≡ g.B.Board.origin l.fn.board;
    }
