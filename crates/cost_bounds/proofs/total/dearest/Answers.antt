use Rattle.std.proofs.lemmas.Option.{slice_get-get_or}
use Rattle.cost_bounds.proofs.Totals.{dearest_goes}
use Rattle.cost_bounds.proofs.total.dearest.Goals as goal

pub loop-job-preserved : goal.loop-job-preserved
loop-job-preserved c =
    dearest_goes c.args.jobs.now c.loop-job.job-index c.loop-job.most _ c.dearer-most.result (slice_get-get_or c.args.jobs.now c.loop-job.job-index _ c.loop-job-test.true) c.dearer-most.ensures c.loop-job.invariant
