use Rattle.std.proofs.Common.{◌≡◌, ◌∙◌, ap, length, sym, subst, rules}
use Rattle.event_arrivals.specs.Arrivals.{Lists, lists_of}
use Rattle.event_arrivals.specs.Spaced.{AreSound}
use Rattle.event_arrivals.proofs.Events.{length-each_own}
use Rattle.event_arrivals.proofs.Sound.{sound}
use Rattle.event_arrivals.proofs.lists.Arrivals.of.Goals as goal

pub invariant_of-result : goal.invariant_of-result
invariant_of-result c =
    let timings = c.args.timings.items in
    let found : Lists = record { timings = timings; kept = c.in_ok-kept.kept.items; dropped = c.in_ok-parted.parted.dropped.items; trace = c.args.trace } in
    let same : found ≡ lists_of timings c.args.trace c.args.rows.now = search rules in
    (c.requires.few, ap length c.in_ok-kept.ensures ∙ length-each_own 0 c.as_slice-3.result.now c.as_slice-4.result.now ∙ ap length c.as_slice-3.ensures.value, subst AreSound (sym same) (sound timings c.args.trace c.args.rows.now c.requires.apart c.requires.few_rows c.requires.known))
