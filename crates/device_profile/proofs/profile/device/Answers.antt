use Rattle.std.proofs.Common.{◌≡◌, sym, Some}
use Rattle.toml.specs.Parse.{parse_document}
use Rattle.toml.specs.View.{table_view}
use Rattle.device_profile.proofs.Answered.{answered-is}
use Rattle.device_profile.proofs.profile.device.Goals as goal

pub returns : goal.returns
returns c =
    let text = c.in-Ok.ensures.cases in
    let read : parse_document c.args.bytes.now ≡ Some (table_view c.in-Ok-table_from_str.table) = rw (← text.0) c.in-Ok-table_from_str.ensures.ok in
    rw c.answered.ensures (answered-is c.args.bytes.now c.profile_of.result (c.if-bytes-gt-MOST_BYTES.false, text.1, (table_view c.in-Ok-table_from_str.table, read, sym c.profile_of.ensures)))
