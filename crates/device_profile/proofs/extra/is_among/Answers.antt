use Rattle.std.proofs.Common.{◌∙◌, sym}
use Rattle.device_profile.proofs.Names.{among-here, among-later, among-none}
use Rattle.device_profile.proofs.extra.is_among.Goals as goal

pub returns-then-eq : goal.returns-then-eq
returns-then-eq c = sym (c.loop-other.invariant ∙ among-here c.args.name.now c.args.names.now c.loop-other.other-index _ c.loop-other-test.true (sym c.eq.ensures ∙ c.if-eq.true))

pub loop-other-preserved : goal.loop-other-preserved
loop-other-preserved c = c.loop-other.invariant ∙ among-later c.args.name.now c.args.names.now c.loop-other.other-index _ c.loop-other-test.true (sym c.eq.ensures ∙ c.if-eq.false)

pub returns : goal.returns
returns c = sym (c.loop-other.invariant ∙ among-none c.args.name.now c.args.names.now c.loop-other.other-index c.loop-other-test.false)
