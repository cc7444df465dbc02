use Rattle.std.proofs.Common.{◌≡◌, ◌++◌, codes}
use Rattle.cn_base.specs.Texts.{in_turn}
use Rattle.bench_input.specs.Input.{failures_round}
use Rattle.bench_input.proofs.failures.Given as goal

abbrev pub invariant-loop-round : goal.invariant-loop-round
invariant-loop-round l = l.text.items ≡ codes "tick,fill\n" ++ in_turn failures_round l.round
