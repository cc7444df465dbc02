use Rattle.std.proofs.Common.{arith}
use Rattle.cn_report.proofs.Written.{window_after, window_apart, length-written}
use Rattle.cn_report.proofs.window.Window.follow.Goals as goal

pub returns-then-is_apart : goal.returns-then-is_apart
returns-then-is_apart c image shows = record {
  within = omega (arith, shows.within, length-written c.args.at c.args.left.now image);
  bytes = window_apart image c.args.left.now c.args.self.now.bytes c.args.place c.args.at shows.within shows.bytes (c.is_apart.ensures c.if-is_apart.true);
}

pub returns : goal.returns
returns c image shows = record {
  within = omega (arith, shows.within, length-written c.args.at c.args.left.now image);
  bytes = window_after image c.args.left.now c.args.self.now.bytes c.loop-k.self.bytes c.args.place c.args.at shows.within shows.bytes c.loop-k.invariant.size
      (λ i below. c.loop-k.invariant.taken i (omega arith));
}
