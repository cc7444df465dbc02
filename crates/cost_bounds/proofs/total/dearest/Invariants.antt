use Rattle.cost_bounds.proofs.Totals.{DearestOf}
use Rattle.cost_bounds.proofs.total.dearest.Given as goal

abbrev pub invariant-loop-job : goal.invariant-loop-job
invariant-loop-job l = DearestOf l.jobs l.job-index l.most
