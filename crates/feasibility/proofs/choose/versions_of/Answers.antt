use Rattle.std.proofs.Common.{◌∙◌}
use Rattle.feasibility.proofs.Vectors.{versions_of-zero, versions_of-suc}
use Rattle.feasibility.proofs.choose.versions_of.Goals as goal

pub loop-event-init : goal.loop-event-init
loop-event-init c = c.new-versions.ensures.items ∙ versions_of-zero c.args.front.now

pub loop-event-preserved : goal.loop-event-preserved
loop-event-preserved c =
    let pushed = c.in_ok-push.ensures.items in
    let more = versions_of-suc c.args.front.now c.loop-event.event in
    cc
