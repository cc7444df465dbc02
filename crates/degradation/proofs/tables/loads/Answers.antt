use Rattle.std.proofs.Common.{◌≡◌, ◌<◌, length, get_or}
use Rattle.std.proofs.lemmas.List.{map_more}
use Rattle.std.proofs.lemmas.Option.{get_or_from_slice_get, slice_get_within}
use Rattle.cost_bounds.specs.BoundsValue.{versions_in}
use Rattle.degradation.specs.Choice.{load_of}
use Rattle.degradation.proofs.tables.loads.Goals as goal

pub loop-v-preserved : goal.loop-v-preserved
loop-v-preserved c =
    let jobs = versions_in c.args.bounds.now c.args.e in
    let lt : c.loop-v.v < length jobs = slice_get_within jobs c.loop-v.v c.job.result c.job.ensures in
    let this : get_or jobs c.loop-v.v c.job.result ≡ c.job.result = get_or_from_slice_get jobs c.loop-v.v c.job.result c.job.result c.job.ensures in
    let more = map_more (load_of c.args.event.now) jobs c.loop-v.v c.job.result lt in
    cc (c.in_ok-push.ensures.items)
