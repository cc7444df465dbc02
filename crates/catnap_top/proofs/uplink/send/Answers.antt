use Rattle.std.proofs.Common.{ap, arith}
use Rattle.cn_uplink.specs.Wire.{WorldValue}
use Rattle.catnap_top.proofs.Sending.{has_sent}
use Rattle.catnap_top.proofs.uplink.send.Goals as goal

pub play-counts-requires : goal.play-counts-requires
play-counts-requires c = omega (arith, ap (λ (w : WorldValue). w.left) c.in-Ok.ensures, c.rows.ensures.count)

pub returns-in-Ok : goal.returns-in-Ok
returns-in-Ok c =
    has_sent c.args.replayed c.args.steps.now c.play-counts.result c.in-Ok.world c.play-counts.new.self (ap (λ (w : WorldValue). w.link) c.in-Ok.ensures) c.play-counts.ensures.finish c.play-counts.ensures.counts
