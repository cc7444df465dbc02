use Rattle.std.proofs.Common.{sym, ◌∙◌}
use Rattle.cn_plan.proofs.Undegraded.{versions_more, versions_none}
use Rattle.cn_plan.proofs.whole.whole_versions.Goals as goal

pub loop-event-init : goal.loop-event-init
loop-event-init c = c.new-versions.ensures.items ∙ sym versions_none

pub loop-event-preserved : goal.loop-event-preserved
loop-event-preserved c = cc (c.in_ok-push.ensures.items, versions_more c.loop-event._event, c.loop-event.invariant)
