use Rattle.std.proofs.Common.{◌≡◌, ◌∙◌, ◌<◌, ◌≤◌, length, sym, true, false, arith, rules}
use Rattle.event_arrivals.specs.Rows.{is_reactive_named}
use Rattle.event_arrivals.proofs.Events.{named-here, named-later, named-none}
use Rattle.event_arrivals.proofs.names.reactive_named.Goals as goal

pub returns-then-is_reactive_named : goal.returns-then-is_reactive_named
returns-then-is_reactive_named c =
    let p = c.args.program.now in
    let size = c.events_have_headers.ensures p c.versions-versions.ensures.checked in
    let within : c.events.number < length p.headers = omega (arith, size, c.events-test.true, c.events-number-end.ensures.count) in
    let holds : is_reactive_named c.args.name.now c.event.result.now ≡ true = search rules in
    sym (c.events.invariant ∙ named-here c.args.name.now p.headers c.events.number c.event.result.now within c.event.ensures.header holds)

pub events-preserved : goal.events-preserved
events-preserved c =
    let p = c.args.program.now in
    let size = c.events_have_headers.ensures p c.versions-versions.ensures.checked in
    let within : c.events.number < length p.headers = omega (arith, size, c.events-test.true, c.events-number-end.ensures.count) in
    let fails : is_reactive_named c.args.name.now c.event.result.now ≡ false = search rules in
    c.events.invariant ∙ named-later c.args.name.now p.headers c.events.number c.event.result.now within c.event.ensures.header fails

pub returns : goal.returns
returns c =
    let p = c.args.program.now in
    let size = c.events_have_headers.ensures p c.versions-versions.ensures.checked in
    let past : length p.headers ≤ c.events.number = omega (arith, size, c.events-test.false, c.events-number-end.ensures.count) in
    sym (c.events.invariant ∙ named-none c.args.name.now p.headers c.events.number past)
