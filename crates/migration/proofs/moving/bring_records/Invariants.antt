use Rattle.std.proofs.Common.{◌≡◌}
use Rattle.migration.specs.Moves.{record_part}
use Rattle.migration.proofs.Upto.{IsUpto}
use Rattle.migration.proofs.moving.bring_records.Given as goal

abbrev pub invariant-loop-k : goal.invariant-loop-k
invariant-loop-k g l =
    record {
      upto : IsUpto (record_part l.old l.new (g.B.Board.state l.fn.board).image) (g.B.Board.state l.fn.board) l.k (g.B.Board.state l.board);
      same_origin : g.B.Board.origin l.board ≡ g.B.Board.origin l.fn.board;
    }
