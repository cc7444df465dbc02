use Rattle.std.proofs.Common.{◌≡◌, ◌++◌}
use Rattle.cn_base.specs.Pages.{IsHeld}
use Rattle.cn_base.specs.PageWords.{held_in, sink_in, sink_name}
use Rattle.cn_base.specs.Texts.{in_turn}
use Rattle.cn_report.specs.Report.{event_line}
use Rattle.cn_report.proofs.chosen.add_versions.Given as goal

abbrev pub invariant-loop-e : goal.invariant-loop-e
invariant-loop-e g l =
    (sink_name l.page ≡ sink_name l.fn.page)
    × IsHeld (g.K.Sink.written (sink_in l.fn.page)) (g.K.Sink.written (sink_in l.page)) (held_in l.fn.page ++ in_turn (event_line l.program l.chosen) l.e) (held_in l.page)
    × (g.K.Sink.faults (sink_in l.page) ≡ g.K.Sink.faults (sink_in l.fn.page))
