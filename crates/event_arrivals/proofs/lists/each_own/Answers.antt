use Rattle.std.proofs.Common.{◌∙◌, sym, append-nil}
use Rattle.event_arrivals.proofs.Events.{each_own-end, each_own-more}
use Rattle.event_arrivals.proofs.lists.each_own.Goals as goal

pub events-preserved : goal.events-preserved
events-preserved c =
    rw (c.in_ok-push.ensures.items, c.of.ensures, c.in_ok-own.ensures)
    (c.events.invariant ∙ each_own-more c.args.timings.now c.args.rows.now c.events.found.items c.events.event c.events-test.true)

pub returns : goal.returns
returns c =
    sym (c.events.invariant ∙ each_own-end c.args.timings.now c.args.rows.now c.events.found.items c.events.event c.events-test.false ∙ append-nil c.events.found.items)
