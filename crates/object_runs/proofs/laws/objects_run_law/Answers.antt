use Rattle.object_runs.proofs.Objects.{each_finds, objects_run}
use Rattle.object_runs.proofs.laws.objects_run_law.Goals as goal

pub returns-clause-well : goal.returns-clause-well
returns-clause-well c = objects_run c.never_stuck_law.ensures c.handler_sums_law.ensures

pub returns-clause-each : goal.returns-clause-each
returns-clause-each c = each_finds c.never_stuck_law.ensures c.handler_sums_law.ensures
