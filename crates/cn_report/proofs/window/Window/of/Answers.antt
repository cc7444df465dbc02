use Rattle.std.proofs.Common.{arith}
use Rattle.cn_report.proofs.Written.{window_of}
use Rattle.cn_report.proofs.window.Window.of.Goals as goal

pub returns : goal.returns
returns g c = record {
  within = c.requires;
  bytes = window_of (g.B.Board.state c.args.board.now).image c.loop-k.bytes c.args.at c.requires c.loop-k.invariant.size (λ i below. c.loop-k.invariant.taken i (omega arith));
}
