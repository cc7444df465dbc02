use Rattle.std.proofs.Common.{List, ℕ, ◌<◌, length, arith}
use Rattle.cn_object.proofs.Lists.{flat_goes, version_at_any}
use Rattle.cn_object.proofs.entries.version_entries.Goals as goal

pub loop-event-preserved : goal.loop-event-preserved
loop-event-preserved c =
    let h : c.loop-event.event < length c.args.code.now.versions = omega (arith, c.loop-event-test.true, c.events-event-end.ensures) in
    flat_goes (λ (es : List ℕ). es) c.args.code.now.versions c.loop-event.event c.versions-more.result.now _ c.loop-event.entries.items c.extend_from_slice.new.self.items h
    (version_at_any c.args.code.now.versions c.loop-event.event c.versions-more.result.now h c.versions-more.ensures) c.loop-event.invariant c.in_ok-extend_from_slice.ensures.items
