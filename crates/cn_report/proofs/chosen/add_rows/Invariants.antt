use Rattle.std.proofs.Common.{◌≡◌, ◌++◌, take}
use Rattle.std.specs.List.{flat_map, zip}
use Rattle.cn_base.specs.Pages.{IsHeld}
use Rattle.cn_base.specs.PageWords.{held_in, sink_in, sink_name}
use Rattle.cn_report.specs.Report.{row_text}
use Rattle.cn_report.proofs.chosen.add_rows.Given as goal

abbrev pub invariant-loop-i : goal.invariant-loop-i
invariant-loop-i g l = record {
  same_sink : sink_name l.page ≡ sink_name l.fn.page;
  text : IsHeld (g.K.Sink.written (sink_in l.fn.page)) (g.K.Sink.written (sink_in l.page))
      (held_in l.fn.page ++ flat_map (row_text l.program.headers l.shown) (take l.i (zip l.forecast l.chosen))) (held_in l.page);
  faults : g.K.Sink.faults (sink_in l.page) ≡ g.K.Sink.faults (sink_in l.fn.page);
}
