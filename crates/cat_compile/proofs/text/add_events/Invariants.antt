use Rattle.std.proofs.Common.{◌≡◌, ◌++◌}
use Rattle.cn_base.specs.Pages.{IsHeld}
use Rattle.cn_base.specs.PageWords.{held_in, sink_in, sink_name}
use Rattle.cn_base.specs.Texts.{in_turn}
use Rattle.cat_compile.specs.Listing.{event_headers}
use Rattle.cat_compile.proofs.text.add_events.Given as goal

abbrev pub invariant-loop-e : goal.invariant-loop-e
invariant-loop-e g l = record {
  same_sink : sink_name l.page ≡ sink_name l.fn.page;
  text : IsHeld (g.K.Sink.written (sink_in l.fn.page)) (g.K.Sink.written (sink_in l.page)) (held_in l.fn.page ++ in_turn (event_headers l.program l.code l.pc) l.e) (held_in l.page);
  faults : g.K.Sink.faults (sink_in l.page) ≡ g.K.Sink.faults (sink_in l.fn.page);
}
