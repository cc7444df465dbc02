use Rattle.std.proofs.Common.{◌≡◌}
use Rattle.cn_resume.specs.Records.{EachBelow, IsRecord, entries_in}
use Rattle.cn_resume.proofs.records.entries_of.Given as goal

abbrev pub invariant-loop-place : goal.invariant-loop-place
invariant-loop-place g l =
    record {
      entries : l.entries.items ≡ entries_in l.layout (g.B.Board.state l.board).image l.place;
      good : EachBelow (IsRecord l.layout l.program l.tick (g.B.Board.state l.board).image) l.place;
    }
