use Rattle.std.proofs.Common.{ap, sym, length, ◌≤◌, arith}
use Rattle.std.proofs.lemmas.Option.{slice_get_past}
use Rattle.cn_report.specs.Report.{name_of}
use Rattle.cn_report.proofs.Texts.{headers_count}
use Rattle.cn_report.proofs.story.event_name.Goals as goal

pub returns-else-event-events : goal.returns-else-event-events
returns-else-event-events c =
    let program = c.args.program.now in
    let past : length program.headers ≤ c.args.event = omega (arith, headers_count program.headers program.events c.bodies-checked.ensures.checked.declares) in
    sym (ap name_of (slice_get_past program.headers c.args.event past))
