use Rattle.std.proofs.Common.{◌≡◌, ◌++◌, codes}
use Rattle.cn_base.specs.Texts.{in_turn}
use Rattle.bench_input.specs.Input.{trace_round}
use Rattle.bench_input.proofs.trace.Given as goal

abbrev pub invariant-loop-round : goal.invariant-loop-round
invariant-loop-round l = l.text.items ≡ codes "ticks,harvest,extra,sample\n" ++ in_turn trace_round l.round
