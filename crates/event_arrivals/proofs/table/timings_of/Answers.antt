use Rattle.std.proofs.Common.{◌≡◌, ◌∙◌, ◌<◌, ◌≤◌, length, subst, sym, arith, append-nil}
use Rattle.event_arrivals.specs.Arrivals.{timings_of}
use Rattle.event_arrivals.specs.Spaced.{HaveSpacings}
use Rattle.event_arrivals.proofs.Events.{timings-end, timings-more}
use Rattle.event_arrivals.proofs.Sound.{have_spacings}
use Rattle.event_arrivals.proofs.table.timings_of.Goals as goal

pub events-preserved : goal.events-preserved
events-preserved c =
    let p = c.args.program.now in
    let size = c.events_have_headers.ensures p c.versions-versions.ensures.checked in
    let within : c.events.number < length p.headers = omega (arith, size, c.events-test.true, c.events-number-end.ensures.count) in
    rw c.in_ok-push.ensures.items (c.events.invariant ∙ timings-more p.headers c.events.found.items c.events.number c.event.result.now within c.event.ensures.header)

pub returns-clause-timings : goal.returns-clause-timings
returns-clause-timings c =
    let p = c.args.program.now in
    let size = c.events_have_headers.ensures p c.versions-versions.ensures.checked in
    let past : length p.headers ≤ c.events.number = omega (arith, size, c.events-test.false, c.events-number-end.ensures.count) in
    sym (c.events.invariant ∙ timings-end p.headers c.events.found.items c.events.number past ∙ append-nil c.events.found.items)

pub returns-clause-apart : goal.returns-clause-apart
returns-clause-apart c =
    let p = c.args.program.now in
    let size = c.events_have_headers.ensures p c.versions-versions.ensures.checked in
    let past : length p.headers ≤ c.events.number = omega (arith, size, c.events-test.false, c.events-number-end.ensures.count) in
    let all : timings_of p.headers ≡ c.events.found.items = c.events.invariant ∙ timings-end p.headers c.events.found.items c.events.number past ∙ append-nil c.events.found.items in
    subst HaveSpacings all (have_spacings p.headers p.events c.versions-versions.ensures.checked.declares)
