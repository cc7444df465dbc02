use Rattle.std.proofs.Common.{◌≡◌, ◌++◌, take}
use Rattle.cn_base.specs.Pages.{IsHeld}
use Rattle.cn_base.specs.PageWords.{held_in, sink_in, sink_name}
use Rattle.cn_uplink.specs.Text.{records_text}
use Rattle.cn_uplink.proofs.text.add_records.Given as goal

abbrev pub invariant-loop-entry : goal.invariant-loop-entry
invariant-loop-entry g l = record {
  same_sink : sink_name l.page ≡ sink_name l.fn.page;
  text : IsHeld (g.K.Sink.written (sink_in l.fn.page)) (g.K.Sink.written (sink_in l.page)) (held_in l.fn.page ++ records_text l.program.headers (take l.entry-index l.records)) (held_in l.page);
  faults : g.K.Sink.faults (sink_in l.page) ≡ g.K.Sink.faults (sink_in l.fn.page);
}
