use Rattle.std.proofs.Common.{◌≡◌, ◌∙◌, ◌<◌, ◌≤◌, ℕ, List, length, subst, sym, arith, append-nil}
use Rattle.std.specs.Prelude.{slice_index}
use Rattle.cn_runtime.specs.Planned.{deadlines_in}
use Rattle.cn_runtime.proofs.Readied.{deadlines-end, deadlines-more, each_short}
use Rattle.cn_runtime.proofs.preparing.deadlines_of.Goals as goal

pub events-preserved : goal.events-preserved
events-preserved c =
    let p = c.args.program.now in
    let size = c.events_have_headers.ensures p c.versions-versions.ensures.checked in
    let within : c.events.number < length p.headers = omega (arith, size, c.events-test.true, c.events-number-end.ensures.count) in
    rw c.in_ok-push.ensures.items (c.events.invariant ∙ deadlines-more p.headers c.events.found.items c.events.number c.event.result.now within c.event.ensures.header)

pub returns-clause-each : goal.returns-clause-each
returns-clause-each c =
    let p = c.args.program.now in
    let size = c.events_have_headers.ensures p c.versions-versions.ensures.checked in
    let past : length p.headers ≤ c.events.number = omega (arith, size, c.events-test.false, c.events-number-end.ensures.count) in
    sym (c.events.invariant ∙ deadlines-end p.headers c.events.found.items c.events.number past ∙ append-nil c.events.found.items)

pub returns-clause-few : goal.returns-clause-few
returns-clause-few c =
    let p = c.args.program.now in
    let size = c.events_have_headers.ensures p c.versions-versions.ensures.checked in
    let past : length p.headers ≤ c.events.number = omega (arith, size, c.events-test.false, c.events-number-end.ensures.count) in
    let all : deadlines_in p.headers ≡ c.events.found.items = c.events.invariant ∙ deadlines-end p.headers c.events.found.items c.events.number past ∙ append-nil c.events.found.items in
    subst (λ (ds : List ℕ). (event : ℕ) → slice_index ds event ≤ 1000000) all (each_short p.headers p.events c.versions-versions.ensures.checked.declares)
