use Rattle.std.proofs.Common.{◌≡◌, ◌+◌, ◌++◌}
use Rattle.std.specs.Prelude.{codes}
use Rattle.std.specs.Fmt.{signed_decimal}
use Rattle.cn_base.specs.Pages.{IsHeld}
use Rattle.cn_base.specs.PageWords.{held_in, sink_in, sink_name}
use Rattle.cn_base.specs.Texts.{in_turn}
use Rattle.cn_report.specs.Outcome.{value_of}
use Rattle.cn_report.proofs.variables.add_values.Given as goal

abbrev pub invariant-loop-k : goal.invariant-loop-k
invariant-loop-k g l = record {
  same_sink : sink_name l.page ≡ sink_name l.fn.page;
  text : IsHeld (g.K.Sink.written (sink_in l.fn.page)) (g.K.Sink.written (sink_in l.page)) (held_in l.fn.page ++ in_turn (λ k. codes " " ++ signed_decimal (value_of l.slot (l.base + k))) l.k) (held_in l.page);
  faults : g.K.Sink.faults (sink_in l.page) ≡ g.K.Sink.faults (sink_in l.fn.page);
}
