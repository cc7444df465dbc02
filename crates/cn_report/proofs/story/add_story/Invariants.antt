use Rattle.std.proofs.Common.{◌≡◌, ◌≤◌, ◌-◌, ◌++◌, length}
use Rattle.cn_base.specs.Pages.{IsHeld}
use Rattle.cn_base.specs.PageWords.{held_in, sink_in, sink_name}
use Rattle.cn_base.specs.Texts.{in_turn}
use Rattle.recovery.specs.Past.{past_of, image_at}
use Rattle.cn_report.specs.Story.{moment_line}
use Rattle.cn_report.specs.Windows.{AreHeads}
use Rattle.cn_report.proofs.story.add_story.Given as goal

abbrev pub invariant-loop-place : goal.invariant-loop-place
invariant-loop-place g l =
    let past = past_of l.layout (g.B.Board.start (g.B.Board.origin l.board)) (g.B.Board.state l.board) in
    record {
      same_sink : sink_name l.page ≡ sink_name l.fn.page;
      within : l.place ≤ length past.timeline;
      text : IsHeld (g.K.Sink.written (sink_in l.fn.page)) (g.K.Sink.written (sink_in l.page)) (held_in l.fn.page ++ in_turn (moment_line past) l.place) (held_in l.page);
      heads : AreHeads l.layout (image_at past l.place) l.heads;
      faults : g.K.Sink.faults (sink_in l.page) ≡ g.K.Sink.faults (sink_in l.fn.page);
    }

abbrev pub decreases-loop-place : goal.decreases-loop-place
decreases-loop-place g l = length (g.B.Board.state l.board).timeline - l.place
