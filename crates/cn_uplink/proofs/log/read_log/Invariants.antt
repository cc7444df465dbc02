use Rattle.std.proofs.Common.{◌≡◌, ◌+◌, map}
use Rattle.std.specs.List.{range_with_len}
use Rattle.cn_uplink.specs.Log.{entry_by}
use Rattle.cn_uplink.proofs.log.read_log.Given as goal

abbrev pub invariant-loop-place : goal.invariant-loop-place
invariant-loop-place g l = (l.log.entries ≡ map (entry_by l.layout (g.B.Board.state l.board).image) (range_with_len 0 l.place)) × (l.place + l.log.spare ≡ l.len)
