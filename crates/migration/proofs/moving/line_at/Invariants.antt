use Rattle.std.proofs.Common.{◌≡◌, length}
use Rattle.nv_memory.specs.Bytes.{bytes_at}
use Rattle.migration.proofs.moving.line_at.Given as goal

abbrev pub invariant-loop-i : goal.invariant-loop-i
invariant-loop-i g l = record { so_far : l.bytes.items ≡ bytes_at l.at l.i (g.B.Board.state l.board).image; many : length l.bytes.items ≡ l.i }
