use Rattle.std.proofs.Common.{◌≡◌, ◌++◌}
use Rattle.cn_base.specs.Pages.{IsHeld}
use Rattle.cn_base.specs.PageWords.{held_in, sink_in, sink_name}
use Rattle.cn_base.specs.Texts.{in_turn}
use Rattle.cat_compile.specs.Listing.{task_header}
use Rattle.cat_compile.proofs.text.add_tasks.Given as goal

abbrev pub invariant-loop-t : goal.invariant-loop-t
invariant-loop-t g l = record {
  same_sink : sink_name l.page ≡ sink_name l.fn.page;
  text : IsHeld (g.K.Sink.written (sink_in l.fn.page)) (g.K.Sink.written (sink_in l.page)) (held_in l.fn.page ++ in_turn (task_header l.program l.code l.pc) l.t) (held_in l.page);
  faults : g.K.Sink.faults (sink_in l.page) ≡ g.K.Sink.faults (sink_in l.fn.page);
}
