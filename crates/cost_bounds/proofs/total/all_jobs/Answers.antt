use Rattle.std.proofs.Common.{arith}
use Rattle.cost_bounds.proofs.Totals.{event_goes}
use Rattle.cost_bounds.proofs.total.all_jobs.Goals as goal

pub loop-event-preserved : goal.loop-event-preserved
loop-event-preserved c =
    event_goes _ c.args.code.now.versions c.loop-event.event c.versions-entries.result.now c.in_ok-jobs.jobs c.loop-event.all.items c.push.new.self.items
    (omega (arith, c.loop-event-test.true, c.events-event-end.ensures)) c.versions-entries.ensures c.in_ok-jobs.ensures c.in_ok-push.ensures.items c.loop-event.invariant
