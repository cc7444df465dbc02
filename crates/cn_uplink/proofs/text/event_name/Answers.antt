use Rattle.std.proofs.Common.{[], ap, sym, length, ◌≡◌, ◌≤◌, arith}
use Rattle.std.specs.Option.{option_map_or}
use Rattle.std.proofs.lemmas.Option.{slice_get_past}
use Rattle.cn_uplink.proofs.text.event_name.Goals as goal

pub returns-else-event-events : goal.returns-else-event-events
returns-else-event-events c =
    let program = c.args.program.now in
    let same : length program.headers ≡ length program.events = c.events_have_headers.ensures program c.bodies-checked.ensures.checked in
    let past : length program.headers ≤ c.args.event = omega (arith, same) in
    sym (ap (λ found. option_map_or (λ header. header.name) found []) (slice_get_past program.headers c.args.event past))
