use Rattle.std.proofs.Common.{◌≡◌, ◌++◌, codes}
use Rattle.cn_base.specs.Texts.{in_turn}
use Rattle.bench_input.specs.Input.{arrivals_round}
use Rattle.bench_input.proofs.arrivals.Given as goal

abbrev pub invariant-loop-round : goal.invariant-loop-round
invariant-loop-round l = l.text.items ≡ codes "tick,event,payload\n" ++ in_turn arrivals_round l.round
