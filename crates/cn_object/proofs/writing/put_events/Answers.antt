use Rattle.std.proofs.Common.{◌<◌, length, [], arith, ap}
use Rattle.std.specs.List.{All}
use Rattle.cn_object.specs.Spelling.{IsPlace, event_bytes}
use Rattle.cn_object.proofs.Ranges.{all_upto}
use Rattle.cn_object.proofs.Lists.{flat_goes, version_at_place, version_at_any}
use Rattle.cn_object.proofs.writing.put_events.Goals as goal

pub put_event-requires : goal.put_event-requires
put_event-requires c =
    let h : c.loop-event.event < length c.args.code.now.versions = omega (arith, c.loop-event-test.true, c.events-event-end.ensures) in
    omega (arith, (c.requires c.loop-event.event [] h).1, ap length (version_at_place c.args.code.now.versions c.loop-event.event c.versions-entries.result.now c.versions-entries.ensures))

pub loop-event-preserved : goal.loop-event-preserved
loop-event-preserved c =
    let h : c.loop-event.event < length c.args.code.now.versions = omega (arith, c.loop-event-test.true, c.events-event-end.ensures) in
    let is = version_at_any c.args.code.now.versions c.loop-event.event c.versions-entries.result.now h c.versions-entries.ensures in (
      flat_goes event_bytes c.args.code.now.versions c.loop-event.event c.versions-entries.result.now _ c.loop-event.out.items c.put_event.new.out.items h
          is c.loop-event.invariant.0 c.in_ok-put_event.ensures.text,
      all_upto (All IsPlace) c.args.code.now.versions c.loop-event.event c.versions-entries.result.now h is c.in_ok-put_event.ensures.places c.loop-event.invariant.1,
    )
