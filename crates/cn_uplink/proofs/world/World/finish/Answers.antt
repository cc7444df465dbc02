use Rattle.std.proofs.Common.{ap, subst, arith}
use Rattle.cn_uplink.specs.Link.{Link}
use Rattle.cn_uplink.specs.Wire.{WorldValue}
use Rattle.cn_uplink.proofs.Finishing.{IsRounding, rounding-ends, rounding-few, rounding-init, rounding-log, rounding-raises, rounding-step, rounding-whole, rounding-world}
use Rattle.cn_uplink.proofs.world.World.finish.Goals as goal

pub rounds-init : goal.rounds-init
rounds-init c =
    subst (λ (start : Link). IsRounding start c.log_len-len.result 0 c.show.new.self 0) (ap (λ (v : WorldValue). v.link) c.self.view_is)
    (rounding-init c.self.inside.wire c.show.new.self c.self.inside.left c.log_len-len.result c.self.invariant c.show.ensures.link c.show.ensures.wire c.show.ensures.others c.show.ensures.room c.log_len-len.ensures)

pub rounds-smaller : goal.rounds-smaller
rounds-smaller c =
    let raises = rounding-raises c.args.self.now.link c.log_len-len.result c.rounds.rounds c.rounds.self-inside.wire c.round.new.self c.rounds.self-inside.left c.rounds.invariant c.rounds-test.true c.round.ensures.link in
    omega (arith, raises)

pub rounds-preserved : goal.rounds-preserved
rounds-preserved c =
    rounding-step c.args.self.now.link c.log_len-len.result c.rounds.rounds c.rounds.self-inside.wire c.round.new.self c.rounds.self-inside.left c.rounds.invariant c.rounds-test.true c.round.ensures.link c.round.ensures.wire c.round.ensures.room

pub invariant_of-self : goal.invariant_of-self
invariant_of-self c = rounding-world c.args.self.now.link c.log_len-len.result c.rounds.rounds c.rounds.self-inside.wire c.rounds.self-inside.left c.rounds.invariant c.rounds-test.false

pub returns-clause-finish : goal.returns-clause-finish
returns-clause-finish c = rounding-ends c.args.self.now.link c.log_len-len.result c.rounds.rounds c.rounds.self-inside.wire c.rounds.self-inside.left c.rounds.invariant c.rounds-test.false

pub returns-clause-log : goal.returns-clause-log
returns-clause-log c = rounding-log c.args.self.now.link c.log_len-len.result c.rounds.rounds c.rounds.self-inside.wire c.rounds.self-inside.left c.rounds.invariant

pub returns-clause-whole : goal.returns-clause-whole
returns-clause-whole c = rounding-whole c.args.self.now.link c.log_len-len.result c.rounds.rounds c.rounds.self-inside.wire c.rounds.self-inside.left c.rounds.invariant c.rounds-test.false

pub returns-clause-few : goal.returns-clause-few
returns-clause-few c = rounding-few c.args.self.now.link c.log_len-len.result c.rounds.rounds c.rounds.self-inside.wire c.rounds.self-inside.left c.rounds.invariant c.rounds-test.false
