use Rattle.std.proofs.Common.{◌-◌, length}
use Rattle.recovery.specs.Past.{past_of}
use Rattle.cn_report.specs.Passed.{HasPassed, IsBefore}
use Rattle.cn_report.proofs.cursor.Cursor.done.Given as goal

abbrev pub invariant-loop-self : goal.invariant-loop-self
invariant-loop-self g l =
    let past = past_of l.layout (g.B.Board.start (g.B.Board.origin l.board)) (g.B.Board.state l.board) in
    record {
      passed : HasPassed past l.self;
      before : IsBefore past l.place l.self;
    }

abbrev pub decreases-loop-self : goal.decreases-loop-self
decreases-loop-self g l = length (g.B.Board.state l.board).timeline - l.self.passed
