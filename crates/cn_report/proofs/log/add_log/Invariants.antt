use Rattle.std.proofs.Common.{◌≡◌, ◌++◌}
use Rattle.cn_base.specs.Pages.{IsHeld}
use Rattle.cn_base.specs.PageWords.{held_in, sink_in, sink_name}
use Rattle.cn_base.specs.Texts.{in_turn}
use Rattle.recovery.specs.Past.{past_of}
use Rattle.cn_report.specs.Outcome.{record_line}
use Rattle.cn_report.specs.Passed.{HasPassed, IsBefore}
use Rattle.cn_report.proofs.log.add_log.Given as goal

abbrev pub invariant-loop-place : goal.invariant-loop-place
invariant-loop-place g l =
    let past = past_of l.layout (g.B.Board.start (g.B.Board.origin l.board)) (g.B.Board.state l.board) in
    record {
      same_sink : sink_name l.page ≡ sink_name l.fn.page;
      passed : HasPassed past l.cursor;
      before : IsBefore past l.place l.cursor;
      text : IsHeld (g.K.Sink.written (sink_in l.fn.page)) (g.K.Sink.written (sink_in l.page)) (held_in l.fn.page ++ in_turn (record_line l.program.headers l.arrivals past l.from) l.place) (held_in l.page);
      faults : g.K.Sink.faults (sink_in l.page) ≡ g.K.Sink.faults (sink_in l.fn.page);
    }
