use Rattle.std.proofs.Common.{◌≡◌, ◌≤◌, ◌-◌, ◌++◌, take, length}
use Rattle.cn_base.specs.Pages.{IsHeld}
use Rattle.cn_base.specs.PageWords.{held_in, sink_in, sink_name}
use Rattle.cn_resume.proofs.saving.add_image.Given as goal

abbrev pub invariant-loop-from : goal.invariant-loop-from
invariant-loop-from g l =
    let image = (g.B.Board.state l.board).image in
    record {
      within : l.from ≤ length image;
      same_sink : sink_name l.page ≡ sink_name l.fn.page;
      text : IsHeld (g.K.Sink.written (sink_in l.fn.page)) (g.K.Sink.written (sink_in l.page)) (held_in l.fn.page ++ take l.from image) (held_in l.page);
      faults : g.K.Sink.faults (sink_in l.page) ≡ g.K.Sink.faults (sink_in l.fn.page);
    }

abbrev pub decreases-loop-from : goal.decreases-loop-from
decreases-loop-from g l = length (g.B.Board.state l.board).image - l.from
