use Rattle.std.proofs.Common.{◌<◌, length, sym, ◌∙◌, arith}
use Rattle.cn_object.proofs.Lists.{begin_found, begin_not, version_at_any}
use Rattle.cn_object.proofs.depths.versions_begin.Goals as goal

pub returns-in-Some : goal.returns-in-Some
returns-in-Some c =
    let h : c.loop-event.event < length c.args.code.now.versions = omega (arith, c.loop-event-test.true, c.events-event-end.ensures) in
    begin_found c.args.code.now.versions c.loop-event.event c.versions-entries.result.now c.in-Some.entry _ _ h
    (version_at_any c.args.code.now.versions c.loop-event.event c.versions-entries.result.now h c.versions-entries.ensures) c.loop-event.invariant (sym c.first.ensures ∙ c.in-Some.is)

pub loop-event-preserved : goal.loop-event-preserved
loop-event-preserved c =
    let h : c.loop-event.event < length c.args.code.now.versions = omega (arith, c.loop-event-test.true, c.events-event-end.ensures) in
    begin_not c.args.code.now.versions c.loop-event.event c.versions-entries.result.now _ h
    (version_at_any c.args.code.now.versions c.loop-event.event c.versions-entries.result.now h c.versions-entries.ensures) c.loop-event.invariant (sym c.first.ensures ∙ c.in_default.is)
